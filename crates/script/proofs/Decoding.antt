-- What a word of hex is decoded to: where its length is told, each of its bytes is a digit, and the bytes are those of `pairs`.
-- Assumes nothing.
use mathlib.Core.Path.{◌≡◌, refl, ap}
use mathlib.Core.Bool.{Bool, true, false, not, cond, ◌&&◌}
use mathlib.Core.List.{List, [], ◌∷◌, ◌++◌}
use Prim.Native.Nat.{ℕ, zero, suc, ◌+◌, ◌/◌, ◌%◌, ◌≤◌, ◌<◌}
use native.Mathlib.Nat.{not-suc-le-zero, le_of_suc-le-suc, zero-add}
use native.Mathlib.Omega.{arith}
use lib.Dec.{eqb, leb}
use lib.ListN.{length, get_or, take, drop}
use lib.Seq.{take_all, take_at, paste}
use borrow.Author.Tests.{le-leb, leb-true}
use Rattle.std.specs.Prelude.{Option, Some, None}
use Rattle.script.specs.Number.{all}
use Rattle.wire.specs.Wire.{same}
use Rattle.script.specs.Hex.{dash, is_hex_digit, is_hex, hex_length_of, pairs, with_room, decoded_of, decoded_in}
use Rattle.wire.proofs.Laws.{same-eq}
use Rattle.script.proofs.Pairs.{length_pairs}

-- both tests of an `and` that is true
pub both : (t u : Bool) → (t && u) ≡ true → (t ≡ true) × (u ≡ true)
both true u e = (refl, e)
both false u e = (e, cc)

all_at : (p : ℕ → Bool) (l : List ℕ) → all p l ≡ true → (k : ℕ) → k < length l → p (get_or l k 0) ≡ true
all_at p [] e k h = absurd (not-suc-le-zero h)
all_at p (b ∷ l) e zero h = (both (p b) (all p l) e).0
all_at p (b ∷ l) e (suc k) h = all_at p l (both (p b) (all p l) e).1 k (le_of_suc-le-suc h)

-- n bytes, of pairs of digits
pub record Told (w : List ℕ) (n : ℕ) : Type 0 where
  pub half : n ≡ length w / 2
  pub digits : (k : ℕ) → k < n + n → is_hex_digit (get_or w k 0) ≡ true

module _ (w : List ℕ) (n : ℕ) where
  told_hex : is_hex w ≡ true → Some (length w / 2) ≡ Some n → Told w n
  unfolding is_hex
  told_hex e q =
      let h : n ≡ length w / 2 = cc in
      let all-hex = (both (not (eqb (length w) 0) && eqb (length w % 2) 0) (all is_hex_digit w) e).1 in
      record { half = h; digits = λ k l. all_at is_hex_digit w all-hex k (omega arith) }

  told-dash : same w dash ≡ true → Some 0 ≡ Some n → Told w n
  told-dash e q =
      let h : n ≡ 0 = cc in
      let l = ap length (same-eq w dash e) in
      record { half = omega arith; digits = λ k m. absurd (omega arith) }

  told-by : (t u : Bool) → same w dash ≡ t → is_hex w ≡ u
      → cond t (Some 0) (cond u (Some (length w / 2)) None) ≡ Some n → Told w n
  told-by true u d e q = told-dash d q
  told-by false true d e q = told_hex e q
  told-by false false d e q = let z : ◌≡◌ {A = ℕ} 0 1 = cc in absurd (omega arith)

  pub told : hex_length_of w ≡ Some n → Told w n
  unfolding hex_length_of
  told q = told-by (same w dash) (is_hex w) refl refl q

module _ (w out : List ℕ) where
  pub decoded : (n : ℕ) → hex_length_of w ≡ Some n → n ≤ length out
      → (Some n ≡ decoded_of w (length out)) × (pairs w ++ drop n out ≡ decoded_in w out)
  unfolding decoded_of decoded_in
  decoded n e h = (rw (e, le-leb n (length out) h), rw (e, le-leb n (length out) h))

  -- all the pairs pasted at the front
  pub all-pairs : (n : ℕ) → n ≡ length w / 2 → paste out 0 (pairs w) n ≡ pairs w ++ drop n out
  all-pairs n h = rw (take_all n (pairs w) (omega (arith, length_pairs w)), zero-add n)

  -- which stand in front then
  pub front : (n : ℕ) → n ≡ length w / 2 → take n (paste out 0 (pairs w) n) ≡ pairs w
  front n h = rw (all-pairs n h) (take_at (pairs w) (drop n out) n (omega (arith, length_pairs w)))

within_by : (m n room : ℕ) (t : Bool) → leb m room ≡ t → cond t (Some m) None ≡ Some n → n ≤ room
within_by m n room true h q =
    let e : m ≡ n = cc in
    omega (arith, leb-true m room h)
within_by m n room false h q = let z : ◌≡◌ {A = ℕ} 0 1 = cc in absurd (omega arith)

within-room : (h : Option ℕ) (n room : ℕ) → with_room h room ≡ Some n → n ≤ room
within-room (Some m) n room q = within_by m n room (leb m room) refl q
within-room None n room q = let z : ◌≡◌ {A = ℕ} 0 1 = cc in absurd (omega arith)

-- the bytes that are written fit
pub decoded_within : (w : List ℕ) (room n : ℕ) → decoded_of w room ≡ Some n → n ≤ room
unfolding decoded_of
decoded_within w room n q = within-room (hex_length_of w) n room q
