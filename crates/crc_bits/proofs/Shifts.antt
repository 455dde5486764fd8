-- Shifts of a CRC: products of running values are linear, n zero bits are the product with the n-th power of x, powers
-- compose, and the CRC of two pieces is theirs joined.
-- Assumes nothing.
use mathlib.Core.Path.{◌≡◌, refl, sym, ap, ap₂, ◌∙◌, subst}
use mathlib.Core.List.{List, ◌++◌}
use Prim.Native.Nat.{ℕ, zero, suc, ◌+◌, ◌-◌, ◌*◌, ◌/◌, ◌%◌, ◌^◌, ◌<◌}
use native.Mathlib.Nat.{pow-suc, add_comm, mul-zero, mul-one, mul_assoc, mul_comm, add-mul, div-add-mod', mod-eq_of_lt}
use native.Mathlib.Omega.{arith}
use lib.Dec.{lit<}
use lib.Pow.{pow-add, pow_pos}
use lib.ListN.{length, replicate}
use lib.Bits.{differ, bit_xor, bit_and, xor_zero_l, xor_zero_r, xor_self, xor_comm, xor_lt, xor_shifted, xor_add_and, and_comm, and_mask}
use Rattle.crc_bits.specs.Crc.{xor32, poly, crc_bit, crc_bits_of, crc_byte, crc_run, crc_of, all_ones}
use Rattle.crc_bits.specs.Shift.{one, times_bits, times, power_of, joined}
use Rattle.crc_bits.proofs.Xor.{xor_odd, xor_half, xor_assoc, xor_medial, xor32-is}
use Rattle.crc_bits.proofs.Linear.{bit_is, bit_lt, bit_linear, bits_lt, bits_linear, bits_shift}
use Rattle.crc_bits.proofs.Carry.{bits_add, run_range, run-split, run_linear}

-- ---- a value, or nothing, by a bit

pub scaled_lt : (d v : ℕ) → d < 2 → v < 2 ^ 32 → d * v < 2 ^ 32
scaled_lt zero v hd hv = omega arith
scaled_lt (suc zero) v hd hv = omega arith
scaled_lt (suc (suc d)) v hd hv = absurd (omega arith)

zero-times : (v : ℕ) → 0 * v ≡ 0
zero-times v = omega arith

one-times : (v : ℕ) → 1 * v ≡ v
one-times v = omega arith

-- of two bits
scaled_differ : (x y v : ℕ) → x < 2 → y < 2 → differ x y * v ≡ bit_xor (x * v) (y * v)
scaled_differ zero y v hx hy = sym (ap (λ (n : ℕ). bit_xor n (y * v)) (zero-times v) ∙ xor_zero_l (y * v))
scaled_differ (suc zero) zero v hx hy = sym (ap (bit_xor (1 * v)) (zero-times v) ∙ xor_zero_r (1 * v))
scaled_differ (suc zero) (suc zero) v hx hy = zero-times v ∙ sym (xor_self (1 * v))
scaled_differ (suc zero) (suc (suc y)) v hx hy = absurd (omega arith)
scaled_differ (suc (suc x)) y v hx hy = absurd (omega arith)

-- of two values
scaled_xor : (d a b : ℕ) → d < 2 → d * bit_xor a b ≡ bit_xor (d * a) (d * b)
scaled_xor zero a b hd = zero-times (bit_xor a b) ∙ sym (ap₂ bit_xor (zero-times a) (zero-times b) ∙ xor_zero_l 0)
scaled_xor (suc zero) a b hd = one-times (bit_xor a b) ∙ sym (ap₂ bit_xor (one-times a) (one-times b))
scaled_xor (suc (suc d)) a b hd = absurd (omega arith)

-- of what a function that keeps nothing makes of a value
scaled_by : (f : ℕ → ℕ) → f 0 ≡ 0 → (d v : ℕ) → d < 2 → f (d * v) ≡ d * f v
scaled_by f e zero v hd = ap f (zero-times v) ∙ e ∙ sym (zero-times (f v))
scaled_by f e (suc zero) v hd = ap f (one-times v) ∙ sym (one-times (f v))
scaled_by f e (suc (suc d)) v hd = absurd (omega arith)

-- ---- bits, one after the other

pub bit_zero : crc_bit 0 ≡ 0
unfolding crc_bit
bit_zero = refl

pub bits_zero : (n : ℕ) → crc_bits_of n 0 ≡ 0
bits_zero zero = refl
bits_zero (suc n) = ap (crc_bits_of n) bit_zero ∙ bits_zero n

-- the last bit of them
pub bits_last : (n c : ℕ) → crc_bits_of (suc n) c ≡ crc_bit (crc_bits_of n c)
bits_last zero c = refl
bits_last (suc n) c = bits_last n (crc_bit c)

pub bits_scaled : (n d c : ℕ) → d < 2 → crc_bits_of n (d * c) ≡ d * crc_bits_of n c
bits_scaled n d c hd = scaled_by (crc_bits_of n) (bits_zero n) d c hd

-- ---- products, one bit a step

odd-lt : (p : ℕ) → p % 2 < 2
odd-lt p = omega arith

pub times_bits-lt : (k p q : ℕ) → q < 2 ^ 32 → times_bits k p q < 2 ^ 32
unfolding times_bits
times_bits-lt zero p q hq = lit< tt
times_bits-lt (suc k) p q hq =
    let a = scaled_lt (p % 2) (crc_bits_of k q) (odd-lt p) (bits_lt k q hq) in
    let b = times_bits-lt k (p / 2) q hq in
    subst (λ (n : ℕ). n < 2 ^ 32) (sym (xor32-is (p % 2 * crc_bits_of k q) (times_bits k (p / 2) q) a b))
    (xor_lt 32 (p % 2 * crc_bits_of k q) (times_bits k (p / 2) q) a b)

pub times_bits_step : (k p q : ℕ) → q < 2 ^ 32 → times_bits (suc k) p q ≡ bit_xor (p % 2 * crc_bits_of k q) (times_bits k (p / 2) q)
unfolding times_bits
times_bits_step k p q hq =
    xor32-is (p % 2 * crc_bits_of k q) (times_bits k (p / 2) q)
    (scaled_lt (p % 2) (crc_bits_of k q) (odd-lt p) (bits_lt k q hq)) (times_bits-lt k (p / 2) q hq)

pub times_bits-none : (p q : ℕ) → times_bits zero p q ≡ 0
unfolding times_bits
times_bits-none p q = refl

-- the same summed up from the lowest bit on: the sum is carried on a bit before each
pub times_bits_turn : (k sum p q : ℕ) → sum < 2 ^ 32 → q < 2 ^ 32
    → bit_xor (crc_bits_of (suc k) sum) (times_bits (suc k) p q) ≡ bit_xor (crc_bits_of k (bit_xor (crc_bit sum) (p % 2 * q))) (times_bits k (p / 2) q)
times_bits_turn k sum p q hs hq =
    ap (bit_xor (crc_bits_of k (crc_bit sum))) (times_bits_step k p q hq)
    ∙ sym (xor_assoc (crc_bits_of k (crc_bit sum)) (p % 2 * crc_bits_of k q) (times_bits k (p / 2) q))
    ∙ ap (λ (n : ℕ). bit_xor n (times_bits k (p / 2) q))
    (ap (bit_xor (crc_bits_of k (crc_bit sum))) (sym (bits_scaled k (p % 2) q (odd-lt p)))
    ∙ sym (bits_linear k (crc_bit sum) (p % 2 * q) (bit_lt sum hs) (scaled_lt (p % 2) q (odd-lt p) hq)))

-- linear over exclusive or, in each
times_bits_linear_l : (k a b q : ℕ) → q < 2 ^ 32 → times_bits k (bit_xor a b) q ≡ bit_xor (times_bits k a q) (times_bits k b q)
times_bits_linear_l zero a b q hq =
    times_bits-none (bit_xor a b) q ∙ sym (ap₂ bit_xor (times_bits-none a q) (times_bits-none b q) ∙ xor_zero_l 0)
times_bits_linear_l (suc k) a b q hq =
    times_bits_step k (bit_xor a b) q hq
    ∙ ap₂ bit_xor
    (ap (λ (n : ℕ). n * crc_bits_of k q) (xor_odd a b) ∙ scaled_differ (a % 2) (b % 2) (crc_bits_of k q) (odd-lt a) (odd-lt b))
    (ap (λ (n : ℕ). times_bits k n q) (xor_half a b) ∙ times_bits_linear_l k (a / 2) (b / 2) q hq)
    ∙ xor_medial (a % 2 * crc_bits_of k q) (b % 2 * crc_bits_of k q) (times_bits k (a / 2) q) (times_bits k (b / 2) q)
    ∙ sym (ap₂ bit_xor (times_bits_step k a q hq) (times_bits_step k b q hq))

times_bits_linear_r : (k p a b : ℕ) → a < 2 ^ 32 → b < 2 ^ 32 → times_bits k p (bit_xor a b) ≡ bit_xor (times_bits k p a) (times_bits k p b)
times_bits_linear_r zero p a b ha hb =
    times_bits-none p (bit_xor a b) ∙ sym (ap₂ bit_xor (times_bits-none p a) (times_bits-none p b) ∙ xor_zero_l 0)
times_bits_linear_r (suc k) p a b ha hb =
    times_bits_step k p (bit_xor a b) (xor_lt 32 a b ha hb)
    ∙ ap₂ bit_xor
    (ap (λ (n : ℕ). p % 2 * n) (bits_linear k a b ha hb) ∙ scaled_xor (p % 2) (crc_bits_of k a) (crc_bits_of k b) (odd-lt p))
    (times_bits_linear_r k (p / 2) a b ha hb)
    ∙ xor_medial (p % 2 * crc_bits_of k a) (p % 2 * crc_bits_of k b) (times_bits k (p / 2) a) (times_bits k (p / 2) b)
    ∙ sym (ap₂ bit_xor (times_bits_step k p a ha) (times_bits_step k p b hb))

-- nothing in a product
times_bits-zero-l : (k q : ℕ) → q < 2 ^ 32 → times_bits k 0 q ≡ 0
times_bits-zero-l zero q hq = times_bits-none 0 q
times_bits-zero-l (suc k) q hq = times_bits_step k 0 q hq ∙ ap₂ bit_xor (zero-times (crc_bits_of k q)) (times_bits-zero-l k q hq) ∙ xor_zero_l 0

times_bits-zero_r : (k p : ℕ) → times_bits k p 0 ≡ 0
times_bits-zero_r zero p = times_bits-none p 0
times_bits-zero_r (suc k) p =
    times_bits_step k p 0 (lit< tt)
    ∙ ap₂ bit_xor (ap (λ (n : ℕ). p % 2 * n) (bits_zero k) ∙ mul-zero (p % 2)) (times_bits-zero_r k (p / 2))
    ∙ xor_zero_l 0

-- a linear function that a bit passes through may be applied to the second factor first
module _ (f : ℕ → ℕ) (none : f 0 ≡ 0) (small : (c : ℕ) → c < 2 ^ 32 → f c < 2 ^ 32)
    (linear : (a b : ℕ) → a < 2 ^ 32 → b < 2 ^ 32 → f (bit_xor a b) ≡ bit_xor (f a) (f b))
    (passes : (c : ℕ) → c < 2 ^ 32 → f (crc_bit c) ≡ crc_bit (f c)) where
  bits_pass : (n c : ℕ) → c < 2 ^ 32 → f (crc_bits_of n c) ≡ crc_bits_of n (f c)
  bits_pass zero c h = refl
  bits_pass (suc n) c h = bits_pass n (crc_bit c) (bit_lt c h) ∙ ap (crc_bits_of n) (passes c h)

  product_pass : (k p q : ℕ) → q < 2 ^ 32 → f (times_bits k p q) ≡ times_bits k p (f q)
  product_pass zero p q hq = ap f (times_bits-none p q) ∙ none ∙ sym (times_bits-none p (f q))
  product_pass (suc k) p q hq =
      ap f (times_bits_step k p q hq)
      ∙ linear (p % 2 * crc_bits_of k q) (times_bits k (p / 2) q) (scaled_lt (p % 2) (crc_bits_of k q) (odd-lt p) (bits_lt k q hq)) (times_bits-lt k (p / 2) q hq)
      ∙ ap₂ bit_xor
      (scaled_by f none (p % 2) (crc_bits_of k q) (odd-lt p) ∙ ap (λ (n : ℕ). p % 2 * n) (bits_pass k q hq))
      (product_pass k (p / 2) q hq)
      ∙ sym (times_bits_step k p (f q) (small q hq))

-- bits of a product are bits of its second factor
bits_of_product : (n k p q : ℕ) → q < 2 ^ 32 → crc_bits_of n (times_bits k p q) ≡ times_bits k p (crc_bits_of n q)
bits_of_product n = product_pass (crc_bits_of n) (bits_zero n) (bits_lt n) (bits_linear n) (λ c h. bits_last n c)

-- factors change places
product_of_product : (n r k p q : ℕ) → q < 2 ^ 32 → times_bits n r (times_bits k p q) ≡ times_bits k p (times_bits n r q)
product_of_product n r =
    product_pass (times_bits n r) (times_bits-zero_r n r) (times_bits-lt n r) (times_bits_linear_r n r)
    (λ c h. sym (bits_of_product 1 n r c h))

-- ---- 1 is neutral

-- k bits after 1
one_bits : (k j : ℕ) → suc (k + j) ≡ 32 → crc_bits_of k one ≡ 2 ^ j
one_bits k j e =
    let sum : j + k ≡ 31 = omega arith in
    let whole : 2 ^ j * 2 ^ k ≡ one = sym (pow-add 2 j k) ∙ ap (λ (n : ℕ). 2 ^ n) sum in
    ap (crc_bits_of k) (sym whole) ∙ bits_shift k (2 ^ j) (subst (λ (n : ℕ). n < 2 ^ 32) (sym whole) (lit< tt))

times_bits-one_r : (k j p : ℕ) → k + j ≡ 32 → p < 2 ^ k → times_bits k p one ≡ p * 2 ^ j
times_bits-one_r zero j p e hp = times_bits-none p one ∙ sym (ap (λ (n : ℕ). n * 2 ^ j) (nothing p hp) ∙ zero-times (2 ^ j))
  where
    nothing : (n : ℕ) → n < 2 ^ 0 → n ≡ 0
    nothing n h = omega arith
times_bits-one_r (suc k) j p e hp =
    times_bits_step k p one (lit< tt)
    ∙ ap₂ bit_xor (ap (λ (n : ℕ). p % 2 * n) (one_bits k j (omega arith))) (times_bits-one_r k (suc j) (p / 2) (omega arith) (omega (arith, pow-suc 2 k)))
    ∙ xor_comm (p % 2 * 2 ^ j) (p / 2 * 2 ^ suc j)
    ∙ xor_shifted (p / 2) (suc j) (p % 2 * 2 ^ j) (low (p % 2) j (odd-lt p))
    ∙ whole p j
  where
    -- a bit at place j is below the place above
    low : (d j : ℕ) → d < 2 → d * 2 ^ j < 2 ^ suc j
    low zero j hd = omega (arith, pow-suc 2 j, pow_pos j)
    low (suc zero) j hd = omega (arith, pow-suc 2 j, pow_pos j)
    low (suc (suc d)) j hd = absurd (omega arith)

    -- the lowest bit, and the bits above it, moved up by j
    whole : (p j : ℕ) → p / 2 * 2 ^ suc j + p % 2 * 2 ^ j ≡ p * 2 ^ j
    whole p j =
        ap (λ (n : ℕ). p / 2 * n + p % 2 * 2 ^ j) (pow-suc 2 j ∙ mul_comm (2 ^ j) 2)
        ∙ ap (λ (n : ℕ). n + p % 2 * 2 ^ j) (sym (mul_assoc (p / 2) 2 (2 ^ j)))
        ∙ sym (add-mul (p / 2 * 2) (p % 2) (2 ^ j))
        ∙ ap (λ (n : ℕ). n * 2 ^ j) (div-add-mod' p 2)

times_bits-one-l : (k q : ℕ) → q < 2 ^ 32 → times_bits (suc k) (2 ^ k) q ≡ q
times_bits-one-l zero q hq = times_bits_step 0 1 q hq ∙ ap₂ bit_xor (one-times q) (times_bits-none 0 q) ∙ xor_zero_r q
times_bits-one-l (suc k) q hq =
    times_bits_step (suc k) (2 ^ suc k) q hq
    ∙ ap₂ bit_xor (ap (λ (n : ℕ). n * crc_bits_of (suc k) q) (omega (arith, pow-suc 2 k)) ∙ zero-times (crc_bits_of (suc k) q))
    (ap (λ (n : ℕ). times_bits (suc k) n q) (omega (arith, pow-suc 2 k)) ∙ times_bits-one-l k q hq)
    ∙ xor_zero_l q

pub times-one : (q : ℕ) → q < 2 ^ 32 → times one q ≡ q
unfolding times
times-one q hq = times_bits-one-l 31 q hq

pub times_linear_l : (a b q : ℕ) → q < 2 ^ 32 → times (bit_xor a b) q ≡ bit_xor (times a q) (times b q)
unfolding times
times_linear_l a b q hq = times_bits_linear_l 32 a b q hq

pub times_linear_r : (p a b : ℕ) → a < 2 ^ 32 → b < 2 ^ 32 → times p (bit_xor a b) ≡ bit_xor (times p a) (times p b)
unfolding times
times_linear_r p a b ha hb = times_bits_linear_r 32 p a b ha hb

-- ---- a bit of a product is a bit of its first factor

-- where the highest bit is clear
times_bits-top : (k p q : ℕ) → p < 2 ^ k → q < 2 ^ 32 → times_bits (suc k) p q ≡ crc_bit (times_bits k p q)
times_bits-top zero p q hp hq =
    ap (λ (n : ℕ). times_bits 1 n q) (nothing p hp) ∙ times_bits-zero-l 1 q hq ∙ sym (ap crc_bit (times_bits-none p q) ∙ bit_zero)
  where
    nothing : (n : ℕ) → n < 2 ^ 0 → n ≡ 0
    nothing n h = omega arith
times_bits-top (suc k) p q hp hq =
    times_bits_step (suc k) p q hq
    ∙ ap₂ bit_xor
    (ap (λ (n : ℕ). p % 2 * n) (bits_last k q) ∙ sym (scaled_by crc_bit bit_zero (p % 2) (crc_bits_of k q) (odd-lt p)))
    (times_bits-top k (p / 2) q (omega (arith, pow-suc 2 k)) hq)
    ∙ sym (bit_linear (p % 2 * crc_bits_of k q) (times_bits k (p / 2) q) (scaled_lt (p % 2) (crc_bits_of k q) (odd-lt p) (bits_lt k q hq)) (times_bits-lt k (p / 2) q hq))
    ∙ ap crc_bit (sym (times_bits_step k p q hq))

-- 32 bits after 1 are the polynomial, so that 32 bits of any value are its product with that
times_bits-poly : (n : ℕ) → crc_bits_of n one ≡ poly → ((p : ℕ) → p < 2 ^ 32 → times_bits n p one ≡ p)
    → (q : ℕ) → q < 2 ^ 32 → times_bits n poly q ≡ crc_bits_of n q
times_bits-poly n e back q hq =
    ap (times_bits n poly) (sym (back q hq))
    ∙ product_of_product n poly n q one (lit< tt)
    ∙ ap (times_bits n q) (back poly (lit< tt) ∙ sym e)
    ∙ sym (bits_of_product n n q one (lit< tt))
    ∙ ap (crc_bits_of n) (back q hq)

one-poly : crc_bits_of 32 one ≡ poly
unfolding crc_bit xor32
one-poly = refl

pub times-one_r : (p : ℕ) → p < 2 ^ 32 → times p one ≡ p
unfolding times
times-one_r p hp = times_bits-one_r 32 0 p refl hp ∙ mul-one p

times-poly : (q : ℕ) → q < 2 ^ 32 → times poly q ≡ crc_bits_of 32 q
unfolding times
times-poly q hq = times_bits-poly 32 one-poly times-one_r q hq

times_bits_bit : (k : ℕ) → ((q : ℕ) → q < 2 ^ 32 → times_bits (suc k) poly q ≡ crc_bits_of (suc k) q)
    → (p q : ℕ) → p < 2 ^ 32 → p / 2 < 2 ^ k → q < 2 ^ 32 → times_bits (suc k) (crc_bit p) q ≡ crc_bit (times_bits (suc k) p q)
times_bits_bit k by-poly p q hp hh hq =
    let d = p % 2 in
    ap (λ (n : ℕ). times_bits (suc k) n q) (bit_is p hp)
    ∙ times_bits_linear_l (suc k) (p / 2) (d * poly) q hq
    ∙ ap₂ bit_xor
    (times_bits-top k (p / 2) q hh hq)
    (scaled_by (λ (n : ℕ). times_bits (suc k) n q) (times_bits-zero-l (suc k) q hq) d poly (odd-lt p)
    ∙ ap (λ (n : ℕ). d * n) (by-poly q hq ∙ bits_last k q)
    ∙ sym (scaled_by crc_bit bit_zero d (crc_bits_of k q) (odd-lt p)))
    ∙ xor_comm (crc_bit (times_bits k (p / 2) q)) (crc_bit (d * crc_bits_of k q))
    ∙ sym (bit_linear (d * crc_bits_of k q) (times_bits k (p / 2) q) (scaled_lt d (crc_bits_of k q) (odd-lt p) (bits_lt k q hq)) (times_bits-lt k (p / 2) q hq))
    ∙ ap crc_bit (sym (times_bits_step k p q hq))

pub times-lt : (p q : ℕ) → q < 2 ^ 32 → times p q < 2 ^ 32
unfolding times
times-lt p q hq = times_bits-lt 32 p q hq

pub times_bit : (p q : ℕ) → p < 2 ^ 32 → q < 2 ^ 32 → times (crc_bit p) q ≡ crc_bit (times p q)
unfolding times
times_bit p q hp hq = times_bits_bit 31 times-poly p q hp (omega arith) hq

-- n zero bits are the product with the n-th power of x
pub times_shift : (n c : ℕ) → c < 2 ^ 32 → times (crc_bits_of n one) c ≡ crc_bits_of n c
times_shift zero c hc = times-one c hc
times_shift (suc n) c hc =
    ap (λ (p : ℕ). times p c) (bits_last n one)
    ∙ times_bit (crc_bits_of n one) c (bits_lt n one (lit< tt)) hc
    ∙ ap crc_bit (times_shift n c hc)
    ∙ sym (bits_last n c)

-- powers of x multiply by adding
pub powers_compose : (m n : ℕ) → times (crc_bits_of m one) (crc_bits_of n one) ≡ crc_bits_of (m + n) one
powers_compose m n =
    times_shift m (crc_bits_of n one) (bits_lt n one (lit< tt))
    ∙ bits_add n m one
    ∙ ap (λ (k : ℕ). crc_bits_of k one) (add_comm n m)

-- by halves: a square, and for an odd number of bytes one byte more
pub square_even : (n : ℕ) → n % 2 ≡ 0 → times (crc_bits_of (8 * (n / 2)) one) (crc_bits_of (8 * (n / 2)) one) ≡ crc_bits_of (8 * n) one
square_even n h =
    let whole : 8 * (n / 2) + 8 * (n / 2) ≡ 8 * n = omega arith in
    powers_compose (8 * (n / 2)) (8 * (n / 2)) ∙ ap (λ (k : ℕ). crc_bits_of k one) whole

pub square_odd : (n : ℕ) → n % 2 ≡ 1 → crc_bits_of 8 (times (crc_bits_of (8 * (n / 2)) one) (crc_bits_of (8 * (n / 2)) one)) ≡ crc_bits_of (8 * n) one
square_odd n h =
    let whole : 8 * (n / 2) + 8 * (n / 2) + 8 ≡ 8 * n = omega arith in
    ap (crc_bits_of 8) (powers_compose (8 * (n / 2)) (8 * (n / 2)))
    ∙ bits_add (8 * (n / 2) + 8 * (n / 2)) 8 one
    ∙ ap (λ (k : ℕ). crc_bits_of k one) whole

-- the shift by n bytes is the n-th power of the shift by one
pub power_is : (n : ℕ) → power_of (crc_bits_of 8 one) n ≡ crc_bits_of (8 * n) one
unfolding power_of
power_is zero = refl
power_is (suc n) =
    let more : 8 + 8 * n ≡ 8 * suc n = omega arith in
    ap (times (crc_bits_of 8 one)) (power_is n) ∙ powers_compose 8 (8 * n) ∙ ap (λ (k : ℕ). crc_bits_of k one) more

pub shift_power : (n c : ℕ) → c < 2 ^ 32 → times (power_of (crc_bits_of 8 one) n) c ≡ crc_bits_of (8 * n) c
shift_power n c hc = ap (λ (p : ℕ). times p c) (power_is n) ∙ times_shift (8 * n) c hc

-- ---- pieces joined

-- zero bytes taken in one by one
pub run-zeros : (n c : ℕ) → c < 2 ^ 32 → crc_run c (replicate n 0) ≡ crc_bits_of (8 * n) c
unfolding crc_run crc_byte
run-zeros zero c hc = refl
run-zeros (suc n) c hc =
    let more : 8 + 8 * n ≡ 8 * suc n = omega arith in
    ap (λ (k : ℕ). crc_run (crc_bits_of 8 k) (replicate n 0)) (xor32-is c 0 hc (lit< tt) ∙ xor_zero_r c)
    ∙ run-zeros n (crc_bits_of 8 c) (bits_lt 8 c hc)
    ∙ bits_add 8 (8 * n) c
    ∙ ap (λ (k : ℕ). crc_bits_of k c) more

-- the inverse of 32 bits is exclusive or with all ones
inverted : (a : ℕ) → a < 2 ^ 32 → all_ones - a ≡ bit_xor all_ones a
inverted a h = rest all_ones a (bit_xor all_ones a) (bit_and all_ones a) (xor_add_and all_ones a) (and_comm all_ones a ∙ and_mask a 32 ∙ mod-eq_of_lt h)
  where
    rest : (m a x y : ℕ) → x + y * 2 ≡ m + a → y ≡ a → m - a ≡ x
    rest m a x y e i = omega arith

-- by a product
pub joined_is : (a b n : ℕ) → a < 2 ^ 32 → b < 2 ^ 32 → joined a b n ≡ bit_xor (times (crc_bits_of (8 * n) one) a) b
unfolding joined
joined_is a b n ha hb =
    xor32-is (crc_bits_of (8 * n) a) b (bits_lt (8 * n) a ha) hb ∙ ap (λ (x : ℕ). bit_xor x b) (sym (times_shift (8 * n) a ha))

-- the CRC of two pieces together
pub join_is : (xs ys : List ℕ) → joined (crc_of xs) (crc_of ys) (length ys) ≡ crc_of (xs ++ ys)
unfolding joined crc_of
join_is xs ys =
    let a = crc_run all_ones xs in
    let r = crc_run all_ones ys in
    let n = 8 * length ys in
    let ha : a < 2 ^ 32 = run_range all_ones xs (lit< tt) in
    let hr : r < 2 ^ 32 = run_range all_ones ys (lit< tt) in
    let hi : bit_xor all_ones a < 2 ^ 32 = xor_lt 32 all_ones a (lit< tt) ha in
    let hz : crc_bits_of n (bit_xor all_ones a) < 2 ^ 32 = bits_lt n (bit_xor all_ones a) hi in
    ap₂ (λ (x y : ℕ). xor32 (crc_bits_of n x) y) (inverted a ha) (inverted r hr)
    ∙ xor32-is (crc_bits_of n (bit_xor all_ones a)) (bit_xor all_ones r) hz (xor_lt 32 all_ones r (lit< tt) hr)
    ∙ xor_comm (crc_bits_of n (bit_xor all_ones a)) (bit_xor all_ones r)
    ∙ xor_assoc all_ones r (crc_bits_of n (bit_xor all_ones a))
    ∙ sym (inverted (bit_xor r (crc_bits_of n (bit_xor all_ones a))) (xor_lt 32 r (crc_bits_of n (bit_xor all_ones a)) hr hz))
    ∙ ap (λ (x : ℕ). all_ones - x)
    (sym (run_linear all_ones (bit_xor all_ones a) ys hi)
    ∙ ap (λ (x : ℕ). crc_run x ys) (sym (xor_assoc all_ones all_ones a) ∙ ap (λ (x : ℕ). bit_xor x a) (xor_self all_ones) ∙ xor_zero_l a)
    ∙ sym (run-split all_ones xs ys))
