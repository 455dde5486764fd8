-- Carrying on: over one list and then another, from two running values joined by exclusive or, and over bits in two lots.
-- No law here asks that the list's numbers are bytes.
-- Assumes nothing.
use mathlib.Core.Path.{◌≡◌, refl, sym, ap, ap₂, ◌∙◌}
use mathlib.Core.List.{List, [], ◌∷◌, ◌++◌}
use Prim.Native.Nat.{ℕ, zero, suc, ◌+◌, ◌*◌, ◌/◌, ◌%◌, ◌^◌, ◌<◌}
use native.Mathlib.Nat.{pow-suc, zero-add, suc-add}
use native.Mathlib.Omega.{arith}
use lib.Bits.{differ, bit_xor, xor_step, xor_zero_l}
use lib.ListN.{length}
use Rattle.crc_bits.specs.Crc.{xor_bits, xor32, crc_bit, crc_bits_of, crc_byte, crc_run}
use Rattle.crc_bits.proofs.Xor.{differ-lt, differ_swap, xor_odd, xor_half}
use Rattle.crc_bits.proofs.Linear.{bits_lt, bits_linear}

pub bits_add : (m n c : ℕ) → crc_bits_of n (crc_bits_of m c) ≡ crc_bits_of (m + n) c
bits_add zero n c = ap (λ (k : ℕ). crc_bits_of k c) (sym (zero-add n))
bits_add (suc m) n c = bits_add m n (crc_bit c) ∙ ap (λ (k : ℕ). crc_bits_of k c) (sym (suc-add m n))

-- exclusive or over k bits has k bits, and takes another number in before or after
xor_bits-lt : (k a b : ℕ) → xor_bits k a b < 2 ^ k
xor_bits-lt zero a b = omega arith
xor_bits-lt (suc k) a b = omega (arith, xor_bits-lt k (a / 2) (b / 2), pow-suc 2 k, differ-lt (a % 2) (b % 2) (omega arith) (omega arith))

xor_bits_on : (k c d b : ℕ) → d < 2 ^ k → xor_bits k (bit_xor c d) b ≡ bit_xor (xor_bits k c b) d
xor_bits_on zero c d b h = sym (xor_zero_l d ∙ omega arith)
xor_bits_on (suc k) c d b h =
    let y : ℕ = xor_bits k (c / 2) (b / 2) in
    let e : ℕ = differ (c % 2) (b % 2) in
    let l : e < 2 = differ-lt (c % 2) (b % 2) (omega arith) (omega arith) in
    let over : (y * 2 + e) / 2 ≡ y = omega arith in
    let low : (y * 2 + e) % 2 ≡ e = omega arith in
    ap₂ (λ (u v : ℕ). u * 2 + v)
    (ap (λ (u : ℕ). xor_bits k u (b / 2)) (xor_half c d) ∙ xor_bits_on k (c / 2) (d / 2) (b / 2) (omega (arith, pow-suc 2 k)))
    (ap (λ (u : ℕ). differ u (b % 2)) (xor_odd c d) ∙ differ_swap (c % 2) (d % 2) (b % 2) (omega arith) (omega arith) (omega arith))
    ∙ sym
    (xor_step (y * 2 + e) d
    ∙ ap₂ (λ (u v : ℕ). bit_xor u (d / 2) * 2 + differ v (d % 2)) over low)

pub byte_range : (c b : ℕ) → crc_byte c b < 2 ^ 32
unfolding crc_byte xor32
byte_range c b = bits_lt 8 (xor32 c b) (xor_bits-lt 32 c b)

pub byte_linear : (c d b : ℕ) → d < 2 ^ 32 → crc_byte (bit_xor c d) b ≡ bit_xor (crc_byte c b) (crc_bits_of 8 d)
unfolding crc_byte xor32
byte_linear c d b h = ap (crc_bits_of 8) (xor_bits_on 32 c d b h) ∙ bits_linear 8 (xor32 c b) d (xor_bits-lt 32 c b) h

pub run_range : (c : ℕ) (ys : List ℕ) → c < 2 ^ 32 → crc_run c ys < 2 ^ 32
unfolding crc_run
run_range c [] h = h
run_range c (b ∷ ys) h = run_range (crc_byte c b) ys (byte_range c b)

pub run-split : (c : ℕ) (xs ys : List ℕ) → crc_run c (xs ++ ys) ≡ crc_run (crc_run c xs) ys
unfolding crc_run
run-split c [] ys = refl
run-split c (b ∷ xs) ys = run-split (crc_byte c b) xs ys

pub run_linear : (c d : ℕ) (ys : List ℕ) → d < 2 ^ 32 → crc_run (bit_xor c d) ys ≡ bit_xor (crc_run c ys) (crc_bits_of (8 * length ys) d)
unfolding crc_run
run_linear c d [] h = refl
run_linear c d (b ∷ ys) h =
    let k : 8 + 8 * length ys ≡ 8 * suc (length ys) = omega arith in
    ap (λ (n : ℕ). crc_run n ys) (byte_linear c d b h)
    ∙ run_linear (crc_byte c b) (crc_bits_of 8 d) ys (bits_lt 8 d h)
    ∙ ap (bit_xor (crc_run (crc_byte c b) ys)) (bits_add 8 (8 * length ys) d ∙ ap (λ (n : ℕ). crc_bits_of n d) k)
