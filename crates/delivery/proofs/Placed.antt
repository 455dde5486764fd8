-- What stands in a list in which some bytes are put: those bytes at their place, and every other as it was. And the events of the
-- answers that are promised.
use Prim.Native.Nat.{ℕ, ◌+◌, ◌-◌, ◌≤◌, ◌<◌}
use mathlib.Core.Path.{◌≡◌, refl, sym, ap, ◌∙◌}
use mathlib.Core.List.{List, [], ◌∷◌, ◌++◌}
use native.Mathlib.Omega.{arith}
use lib.ListN.{length, get_or, take, drop}
use lib.Seq.{length-take-le, get_or-take, get_or-drop, take_at}
use Rattle.wire.specs.Wire.{part, put}
use Rattle.wire.proofs.Laws.{length-put, part-put, drop-put}
use Rattle.arrival.specs.declared.Event.{Event}
use Rattle.delivery.specs.Delivery.{with_event, events_of, answers_of}
use Rattle.delivery.specs.Promise.{Placed}
use Rattle.std.specs.Prelude.{None, Option}

module _ (l : List ℕ) (at : ℕ) (xs : List ℕ) (h : at + length xs ≤ length l) where
  front : take at (put l at xs) ≡ take at l
  front = take_at (take at l) (xs ++ drop (at + length xs) l) at (length-take-le at l (omega arith))

  put-before : (i : ℕ) → i < at → get_or (put l at xs) i 0 ≡ get_or l i 0
  put-before i k = sym (get_or-take at (put l at xs) i 0 k) ∙ ap (λ (z : List ℕ). get_or z i 0) front ∙ get_or-take at l i 0 k

  put-behind : (i : ℕ) → at + length xs ≤ i → get_or (put l at xs) i 0 ≡ get_or l i 0
  put-behind i k =
      let n : ℕ = at + length xs in
      let e : n + (i - n) ≡ i = omega arith in
      ap (λ (j : ℕ). get_or (put l at xs) j 0) (sym e)
      ∙ sym (get_or-drop n (put l at xs) (i - n) 0)
      ∙ ap (λ (z : List ℕ). get_or z (i - n) 0) (drop-put l at xs (omega arith))
      ∙ get_or-drop n l (i - n) 0
      ∙ ap (λ (j : ℕ). get_or l j 0) e

  pub put-placed : (after : List ℕ) → after ≡ put l at xs → Placed l after at xs
  put-placed after e = record {
    is = e;
    there = ap (λ (z : List ℕ). part z at (length xs)) e ∙ part-put l at xs (omega arith);
    as_long = ap length e ∙ length-put l at xs h;
    before = λ i k. ap (λ (z : List ℕ). get_or z i 0) e ∙ put-before i k;
    behind = λ i k. ap (λ (z : List ℕ). get_or z i 0) e ∙ put-behind i k;
  }

-- no event, and one event
pub none_said : (fs : List (List ℕ)) → events_of (answers_of None fs) ≡ []
unfolding events_of answers_of
none_said [] = refl
none_said (f ∷ []) = refl
none_said (f ∷ g ∷ fs) = none_said (g ∷ fs)

pub one-said : (e : Option Event) (f : List ℕ) (fs : List (List ℕ)) → events_of (answers_of e (f ∷ fs)) ≡ with_event e []
unfolding events_of answers_of
one-said e f [] = refl
one-said e f (g ∷ fs) = one-said e g fs
