-- A number read digit by digit: the first digit alone decides whether the rest is read on, and from which value. Assumes nothing.
use mathlib.Core.Path.{◌≡◌, refl, ap, ◌∙◌}
use mathlib.Core.Bool.{Bool, true, false, cond, ◌&&◌}
use mathlib.Core.List.{List, [], ◌∷◌}
use Prim.Native.Nat.{ℕ, suc, ◌+◌, ◌-◌, ◌*◌, ◌^◌, ◌≤◌, ◌<◌}
use native.Mathlib.Numerals.{add-one}
use native.Mathlib.Omega.{arith}
use lib.Dec.{ltb}
use lib.ListN.{length, get_or, drop, drop_of_length-le}
use lib.Seq.{drop-cons}
use borrow.Author.Tests.{lt-ltb, le-ltb, ltb-false}
use Rattle.std.specs.Prelude.{Option, Some, None}
use Rattle.script.specs.Number.{is_digit, all, value_from, bounded, number_from, number_of}

-- more digits never make a number less
grows : (v : ℕ) (l : List ℕ) → v ≤ value_from v l
unfolding value_from
grows v [] = omega arith
grows v (b ∷ l) = omega (arith, grows (v * 10 + (b - 48)) l)

either-bad : (t : Bool) → ◌≡◌ {A = Option ℕ} (cond t None None) None
either-bad true = refl
either-bad false = refl

-- what is read after the digits so far
abbrev pub after : List ℕ → Option ℕ → Option ℕ
after l (Some n) = number_from n l
after l None = None

module _ (m : ℕ) (l : List ℕ) where
  within : (u : Bool) → ltb m (2 ^ 64) ≡ u → number_from m l ≡ after l (cond u (Some m) None)
  unfolding number_from
  within true e = refl
  within false e =
      rw (le-ltb (value_from m l) (2 ^ 64) (omega (arith, grows m l, ltb-false m (2 ^ 64) e))) (either-bad (all is_digit l))

number-next : (v b : ℕ) (l : List ℕ) → number_from v (b ∷ l) ≡ after l (number_from v (b ∷ []))
unfolding number_from value_from
number-next v b l = go (is_digit b)
  where
    m : ℕ
    m = v * 10 + (b - 48)

    go : (t : Bool) → cond (t && all is_digit l) (bounded (value_from m l)) None ≡ after l (cond (t && true) (bounded m) None)
    go true = within m l (ltb m (2 ^ 64)) refl
    go false = refl

pub number-empty : (l : List ℕ) → length l ≡ 0 → number_of l ≡ None
unfolding number_of
number-empty [] h = refl
number-empty (b ∷ l) h = absurd (omega arith)

pub number-some : (l : List ℕ) → (length l ≡ 0 → ⊥) → number_of l ≡ number_from 0 l
unfolding number_of
number-some [] h = absurd (h refl)
number-some (b ∷ l) h = refl

module _ (w : List ℕ) (i v : ℕ) where
  pub read_on : {r : Option ℕ} → i < length w → number_from v (get_or w i 0 ∷ []) ≡ r → number_from v (drop i w) ≡ after (drop (i + 1) w) r
  read_on h e = rw (add-one, drop-cons w i 0) (number-next v (get_or w i 0) (drop (suc i) w) ∙ ap (after (drop (suc i) w)) e)

  pub read_end : length w ≤ i → v < 2 ^ 64 → number_from v (drop i w) ≡ Some v
  unfolding number_from value_from
  read_end k h = rw (drop_of_length-le w k, lt-ltb v (2 ^ 64) h)
