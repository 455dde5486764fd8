-- The steps of the CRC are linear in exclusive or, so that the bits of a number come from those of its parts.
-- Assumes nothing.
use mathlib.Core.Bool.{cond}
use mathlib.Core.Path.{◌≡◌, refl, sym, ap, ap₂, ◌∙◌, subst}
use Prim.Native.Nat.{ℕ, zero, suc, ◌*◌, ◌/◌, ◌%◌, ◌^◌, ◌<◌}
use native.Mathlib.Omega.{arith}
use lib.Dec.{eqb, lit<}
use lib.Bits.{differ, bit_xor, xor_zero_l, xor_zero_r, xor_self, xor_lt, shifted_half, shifted_even}
use Rattle.crc_bits.specs.Crc.{xor32, poly, crc_bit, crc_bits_of}
use Rattle.crc_bits.proofs.Xor.{xor_odd, xor_half, xor_medial, xor32-is}

-- the polynomial, or nothing, by the bit that falls out
abbrev taken : ℕ → ℕ
taken d = d * poly

taken-lt : (d : ℕ) → d < 2 → taken d < 2 ^ 32
taken-lt d h = omega arith

taken_linear : (x y : ℕ) → x < 2 → y < 2 → taken (differ x y) ≡ bit_xor (taken x) (taken y)
taken_linear zero y hx hy = sym (xor_zero_l (taken y))
taken_linear (suc zero) zero hx hy = sym (xor_zero_r poly)
taken_linear (suc zero) (suc zero) hx hy = sym (xor_self poly)
taken_linear (suc zero) (suc (suc y)) hx hy = absurd (omega arith)
taken_linear (suc (suc x)) y hx hy = absurd (omega arith)

pub bit_is : (c : ℕ) → c < 2 ^ 32 → crc_bit c ≡ bit_xor (c / 2) (taken (c % 2))
unfolding crc_bit
bit_is c h = go (c / 2) (c % 2) (omega arith) (omega arith)
  where
    go : (x d : ℕ) → x < 2 ^ 32 → d < 2 → cond (eqb d 0) x (xor32 x poly) ≡ bit_xor x (taken d)
    go x zero hx hd = sym (xor_zero_r x)
    go x (suc zero) hx hd = xor32-is x poly hx (lit< tt)
    go x (suc (suc d)) hx hd = absurd (omega arith)

pub bit_lt : (c : ℕ) → c < 2 ^ 32 → crc_bit c < 2 ^ 32
bit_lt c h =
    subst (λ (n : ℕ). n < 2 ^ 32) (sym (bit_is c h))
    (xor_lt 32 (c / 2) (taken (c % 2)) (omega arith) (taken-lt (c % 2) (omega arith)))

pub bit_linear : (a b : ℕ) → a < 2 ^ 32 → b < 2 ^ 32 → crc_bit (bit_xor a b) ≡ bit_xor (crc_bit a) (crc_bit b)
bit_linear a b ha hb =
    bit_is (bit_xor a b) (xor_lt 32 a b ha hb)
    ∙ ap₂ bit_xor (xor_half a b) (ap taken (xor_odd a b) ∙ taken_linear (a % 2) (b % 2) (omega arith) (omega arith))
    ∙ xor_medial (a / 2) (b / 2) (taken (a % 2)) (taken (b % 2))
    ∙ sym (ap₂ bit_xor (bit_is a ha) (bit_is b hb))

pub bits_lt : (n c : ℕ) → c < 2 ^ 32 → crc_bits_of n c < 2 ^ 32
bits_lt zero c h = h
bits_lt (suc n) c h = bits_lt n (crc_bit c) (bit_lt c h)

pub bits_linear : (n a b : ℕ) → a < 2 ^ 32 → b < 2 ^ 32 → crc_bits_of n (bit_xor a b) ≡ bit_xor (crc_bits_of n a) (crc_bits_of n b)
bits_linear zero a b ha hb = refl
bits_linear (suc n) a b ha hb = ap (crc_bits_of n) (bit_linear a b ha hb) ∙ bits_linear n (crc_bit a) (crc_bit b) (bit_lt a ha) (bit_lt b hb)

-- n zero bits at the low end are shifted out
pub bits_shift : (n h : ℕ) → h * 2 ^ n < 2 ^ 32 → crc_bits_of n (h * 2 ^ n) ≡ h
bits_shift zero h l = omega arith
bits_shift (suc n) h l =
    ap (crc_bits_of n)
    (bit_is (h * 2 ^ suc n) l
    ∙ ap₂ bit_xor (shifted_half h n) (ap taken (shifted_even h n))
    ∙ xor_zero_r (h * 2 ^ n))
    ∙ bits_shift n h (omega (arith, l, shifted_half h n))
