-- Exclusive or: it is associative, and the bit-by-bit definition is the machine's.
-- Assumes nothing.
use mathlib.Core.Path.{◌≡◌, refl, sym, ap, ap₂, ◌∙◌}
use Prim.Native.Nat.{ℕ, zero, suc, ◌+◌, ◌*◌, ◌/◌, ◌%◌, ◌^◌, ◌<◌}
use native.Mathlib.Nat.{pow-suc}
use native.Mathlib.Omega.{arith}
use lib.Arith.{bin_ind}
use lib.Bits.{differ, bit_xor, xor_step, xor_zero_l, xor_comm}
use Rattle.crc_bits.specs.Crc.{xor_bits, xor32}

pub differ-lt : (x y : ℕ) → x < 2 → y < 2 → differ x y < 2
differ-lt zero y hx hy = hy
differ-lt (suc zero) zero hx hy = hx
differ-lt (suc zero) (suc zero) hx hy = omega arith
differ-lt (suc zero) (suc (suc y)) hx hy = absurd (omega arith)
differ-lt (suc (suc x)) y hx hy = absurd (omega arith)

differ_assoc : (x y z : ℕ) → x < 2 → y < 2 → z < 2 → differ (differ x y) z ≡ differ x (differ y z)
differ_assoc zero y z hx hy hz = refl
differ_assoc (suc zero) zero z hx hy hz = refl
differ_assoc (suc zero) (suc zero) zero hx hy hz = refl
differ_assoc (suc zero) (suc zero) (suc zero) hx hy hz = refl
differ_assoc (suc zero) (suc zero) (suc (suc z)) hx hy hz = absurd (omega arith)
differ_assoc (suc zero) (suc (suc y)) z hx hy hz = absurd (omega arith)
differ_assoc (suc (suc x)) y z hx hy hz = absurd (omega arith)

-- the last two change places
pub differ_swap : (x y z : ℕ) → x < 2 → y < 2 → z < 2 → differ (differ x y) z ≡ differ (differ x z) y
differ_swap x y z hx hy hz = differ_assoc x y z hx hy hz ∙ ap (differ x) (differ_comm y z hy hz) ∙ sym (differ_assoc x z y hx hz hy)
  where
    differ_comm : (m n : ℕ) → m < 2 → n < 2 → differ m n ≡ differ n m
    differ_comm zero zero hm hn = refl
    differ_comm zero (suc zero) hm hn = refl
    differ_comm (suc zero) zero hm hn = refl
    differ_comm (suc zero) (suc zero) hm hn = refl
    differ_comm zero (suc (suc n)) hm hn = absurd (omega arith)
    differ_comm (suc zero) (suc (suc n)) hm hn = absurd (omega arith)
    differ_comm (suc (suc m)) n hm hn = absurd (omega arith)

-- the lowest bit, and the bits above it
pub xor_odd : (a b : ℕ) → bit_xor a b % 2 ≡ differ (a % 2) (b % 2)
xor_odd a b = omega (arith, xor_step a b, differ-lt (a % 2) (b % 2) (omega arith) (omega arith))

pub xor_half : (a b : ℕ) → bit_xor a b / 2 ≡ bit_xor (a / 2) (b / 2)
xor_half a b = omega (arith, xor_step a b, differ-lt (a % 2) (b % 2) (omega arith) (omega arith))

pub xor_assoc : (a b c : ℕ) → bit_xor (bit_xor a b) c ≡ bit_xor a (bit_xor b c)
xor_assoc a =
    bin_ind (λ (n : ℕ). (b c : ℕ) → bit_xor (bit_xor n b) c ≡ bit_xor n (bit_xor b c))
    (λ b c. ap (λ (x : ℕ). bit_xor x c) (xor_zero_l b) ∙ sym (xor_zero_l (bit_xor b c)))
    (λ n ih b c.
    xor_step (bit_xor n b) c
    ∙ ap₂ (λ (x y : ℕ). x * 2 + y)
    (ap (λ (x : ℕ). bit_xor x (c / 2)) (xor_half n b) ∙ ih (b / 2) (c / 2) ∙ ap (bit_xor (n / 2)) (sym (xor_half b c)))
    (ap (λ (x : ℕ). differ x (c % 2)) (xor_odd n b) ∙ differ_assoc (n % 2) (b % 2) (c % 2) (omega arith) (omega arith) (omega arith) ∙ ap (differ (n % 2)) (sym (xor_odd b c)))
    ∙ sym (xor_step n (bit_xor b c)))
    a

-- the middle two change places
pub xor_medial : (a b c d : ℕ) → bit_xor (bit_xor a b) (bit_xor c d) ≡ bit_xor (bit_xor a c) (bit_xor b d)
xor_medial a b c d =
    xor_assoc a b (bit_xor c d)
    ∙ ap (bit_xor a) (sym (xor_assoc b c d) ∙ ap (λ (x : ℕ). bit_xor x d) (xor_comm b c) ∙ xor_assoc c b d)
    ∙ sym (xor_assoc a c (bit_xor b d))

-- k steps are enough for numbers of k bits
pub xor_bits-is : (k a b : ℕ) → a < 2 ^ k → b < 2 ^ k → xor_bits k a b ≡ bit_xor a b
xor_bits-is zero a b ha hb = sym (ap₂ bit_xor (lt-one a ha) (lt-one b hb) ∙ xor_zero_l 0)
  where
    lt-one : (n : ℕ) → n < 2 ^ 0 → n ≡ 0
    lt-one n h = omega arith
xor_bits-is (suc k) a b ha hb =
    ap (λ (x : ℕ). x * 2 + differ (a % 2) (b % 2)) (xor_bits-is k (a / 2) (b / 2) (omega (arith, pow-suc 2 k)) (omega (arith, pow-suc 2 k)))
    ∙ sym (xor_step a b)

pub xor32-is : (a b : ℕ) → a < 2 ^ 32 → b < 2 ^ 32 → xor32 a b ≡ bit_xor a b
unfolding xor32
xor32-is a b ha hb = xor_bits-is 32 a b ha hb
