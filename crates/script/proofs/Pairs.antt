-- Hex digits by place: byte j of what is read is made of digits 2j and 2j + 1; and how many there are. Assumes nothing.
use mathlib.Core.Path.{◌≡◌, refl}
use mathlib.Core.List.{List, [], ◌∷◌}
use Prim.Native.Nat.{ℕ, zero, suc, ◌+◌, ◌*◌, ◌/◌, ◌<◌}
use native.Mathlib.Nat.{not-suc-le-zero}
use native.Mathlib.Numerals.{add-one}
use native.Mathlib.Omega.{arith}
use lib.ListN.{length, get_or}
use Rattle.script.specs.Hex.{nibble, pairs, hex_digits}

two : (k : ℕ) → suc k + suc k ≡ suc (suc (k + k))
two k = omega arith

pub length_digits : (l : List ℕ) → length (hex_digits l) ≡ length l + length l
unfolding hex_digits
length_digits [] = refl
length_digits (b ∷ l) = omega (arith, length_digits l)

pair : (w : List ℕ) (j : ℕ) → suc (j + j) < length w → get_or (pairs w) j 0 ≡ nibble (get_or w (j + j) 0) * 16 + nibble (get_or w (suc (j + j)) 0)
unfolding pairs
pair [] j h = absurd (not-suc-le-zero h)
pair (x ∷ []) j h = absurd (omega arith)
pair (x ∷ y ∷ w) zero h = refl
pair (x ∷ y ∷ w) (suc j) h = rw (two j) (pair w j (omega arith))

pub pair_at : (w : List ℕ) (j : ℕ) → j + j + 1 < length w → get_or (pairs w) j 0 ≡ nibble (get_or w (j + j) 0) * 16 + nibble (get_or w (j + j + 1) 0)
pair_at w j h = rw add-one (pair w j (omega arith))

pub length_pairs : (w : List ℕ) → length (pairs w) ≡ length w / 2
unfolding pairs
length_pairs [] = refl
length_pairs (x ∷ []) = refl
length_pairs (x ∷ y ∷ w) = omega (arith, length_pairs w)
