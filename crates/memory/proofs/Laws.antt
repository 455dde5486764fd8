-- Laws that several proofs cite: tests on numbers that are the same test, what the range tests bound, and entries moved up.
use Prim.Native.Nat.{ℕ, ◌+◌, ◌≤◌, ◌<◌}
use mathlib.Core.Path.{◌≡◌, refl}
use mathlib.Core.Bool.{Bool, true, false}
use mathlib.Core.List.{List, [], ◌∷◌, ◌++◌}
use native.Mathlib.Omega.{arith}
use native.Mathlib.Decide.{dec_lt}
use lib.ListN.{length, get_or, drop, drop_of_length-le}
use lib.Seq.{drop-cons}
use lib.Dec.{leb, ltb}
use borrow.Author.Tests.{leb-true, leb-false, le-leb, lt-leb}
use Rattle.wire.specs.Wire.{both}
use Rattle.wire.proofs.Laws.{both_true}
use Rattle.memory.specs.Part.{in_part, part_fits}
use Rattle.memory.specs.Window.{in_range, window_fits}
use Rattle.memory.specs.declared.part.Part.{Part}

-- two tests of which each follows from the other
pub leb-same : (a b c d : ℕ) → (a ≤ b → c ≤ d) → (c ≤ d → a ≤ b) → leb a b ≡ leb c d
leb-same a b c d f g = go (leb c d) refl
  where
    go : (t : Bool) → leb c d ≡ t → leb a b ≡ t
    go true e = le-leb a b (g (leb-true c d e))
    go false e = lt-leb a b (away (dec_lt b a))
      where
        away : Dec (b < a) → b < a
        away (yes h) = h
        away (no h) = absurd (omega (arith, f (omega arith), leb-false c d e))

pub ltb-same : (a b c d : ℕ) → (a < b → c < d) → (c < d → a < b) → ltb a b ≡ ltb c d
ltb-same a b c d f g = leb-same _ _ _ _ f g

pub both_left : (a b : Bool) → both a b ≡ true → a ≡ true
both_left a b e = (both_true a b e).0

pub both_right : (a b : Bool) → both a b ≡ true → b ≡ true
both_right a b e = (both_true a b e).1

-- what lies in a part ends in it
pub part_bound : (p : Part) (start len : ℕ) → in_part p start len ≡ true → start + len ≤ p.end
unfolding in_part
part_bound p start len e =
    leb-true _ _
    (both_right (leb p.start start) (leb (start + len) p.end)
    (both_right (leb 1 len) (both (leb p.start start) (leb (start + len) p.end)) e))

-- a part that lies in a store starts before it ends, and ends in it
pub fits-ends : (p : Part) (size : ℕ) → part_fits p size ≡ true → (p.start ≤ p.end) × (p.end ≤ size)
fits-ends p size e =
    let h = both_true (leb p.start p.end) (leb p.end size) e in (leb-true _ _ h.0, leb-true _ _ h.1)

pub window_bound : (p : Part) (place base len : ℕ) → window_fits p place base len ≡ true → place + len ≤ p.end
unfolding window_fits
window_bound p place base len e =
    part_bound p place len (both_left (in_part p place len) (leb (base + len) 18446744073709551615) e)

-- what is in range is below its limit
module _ (key rights : ℕ) (e : in_range key rights ≡ true) where
  key_in : Bool
  key_in = both (leb 1 key) (leb key 255)

  rights_in : Bool
  rights_in = both (leb 1 rights) (leb rights 3)

  halves : both key_in rights_in ≡ true
  unfolding in_range key_in rights_in
  halves = e

  pub key_bound : key ≤ 255
  unfolding key_in
  key_bound = leb-true _ _ (both_right (leb 1 key) (leb key 255) (both_left key_in rights_in halves))

  pub rights_bound : rights ≤ 3
  unfolding rights_in
  rights_bound = leb-true _ _ (both_right (leb 1 rights) (leb rights 3) (both_right key_in rights_in halves))

-- eight entries without the first, and another at the end
pub shifted :
    {A : Type 0} (d z : A) (l : List A) → length l ≡ 8 →
    get_or l 1 d ∷ get_or l 2 d ∷ get_or l 3 d ∷ get_or l 4 d ∷ get_or l 5 d ∷ get_or l 6 d ∷ get_or l 7 d ∷ z ∷ [] ≡ drop 1 l ++ (z ∷ [])
shifted d z l e =
    rw (drop-cons l 1 d (omega arith), drop-cons l 2 d (omega arith), drop-cons l 3 d (omega arith), drop-cons l 4 d (omega arith), drop-cons l 5 d (omega arith), drop-cons l 6 d (omega arith), drop-cons l 7 d (omega arith), drop_of_length-le l {i = 8} (omega arith))
