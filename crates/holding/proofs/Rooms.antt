-- What `gather` answers and leaves in the room, by how many bytes are pending.
use Prim.Native.Nat.{ℕ, ◌+◌, ◌-◌, ◌≤◌, ◌<◌}
use mathlib.Core.Path.{◌≡◌, refl, sym, ap, ap₂, ◌∙◌}
use mathlib.Core.Bool.{Bool, true, false}
use mathlib.Core.List.{List, [], ◌++◌}
use native.Mathlib.Omega.{arith}
use native.Mathlib.Decide.{dec_lt}
use lib.ListN.{length, take, drop, length-append, take-append-drop}
use lib.Seq.{take-length, take_all, length-take-le}
use lib.Dec.{leb, ltb, eqb}
use borrow.Author.Tests.{leb-true, ltb-true, ltb-false, lt-ltb, le-ltb, eq-eqb, ne_eqb}
use Rattle.wire.specs.Wire.{pick, put}
use Rattle.wire.proofs.Laws.{length-put}
use Rattle.ddp.specs.Place.{fits, placed}
use Rattle.holding.specs.Pending.{needed_of, is_short, gathered, copied, room_after}
use Rattle.holding.specs.declared.gather.Gathered.TheVariants.{Short, Enough}

-- no bytes placed
pub placed-none : (room : List ℕ) (at : ℕ) → placed room at [] ≡ room
unfolding placed
placed-none room at = go (fits room at [])
  where
    whole : put room at [] ≡ room
    whole = ap (λ (n : ℕ). take at room ++ drop n room) (let e : at + 0 ≡ at = omega arith in e) ∙ take-append-drop at room

    go : (b : Bool) → pick b (put room at []) room ≡ room
    go true = whole
    go false = refl

-- the bytes that the room starts with, as many as a count says
pub take-held : (n : ℕ) (room : List ℕ) → take (length (take n room)) room ≡ take n room
take-held n room = go (dec_lt n (length room))
  where
    go : Dec (n < length room) → take (length (take n room)) room ≡ take n room
    go (yes h) = ap (λ (i : ℕ). take i room) (length-take-le n room (omega arith))
    go (no h) = let a = take_all n room (omega arith) in ap (λ (l : List ℕ). take (length l) room) a ∙ take-length room ∙ sym a

-- what is placed in a room leaves its length
pub placed-long : (room : List ℕ) (at : ℕ) (xs : List ℕ) → length (placed room at xs) ≡ length room
unfolding placed fits
placed-long room at xs = go (leb (at + length xs) (length room)) refl
  where
    go : (b : Bool) → leb (at + length xs) (length room) ≡ b → length (pick b (put room at xs) room) ≡ length room
    go true e = length-put room at xs (leb-true (at + length xs) (length room) e)
    go false e = refl

pub room-length : (h input room : List ℕ) → length (room_after h input room) ≡ length room
unfolding room_after
room-length h input room = placed-long room (length h) (take (copied h input) input)

-- k bytes h are held, and n of the pending bytes are needed
module _ (h input : List ℕ) (k n : ℕ) (many : k ≡ length h) (need : n ≡ needed_of (h ++ input)) where
  short_by : (b : Bool) → ltb (k + length input) n ≡ b → is_short (h ++ input) ≡ b
  unfolding is_short
  short_by b e = ap₂ ltb (length-append h input ∙ ap (λ (m : ℕ). m + length input) (sym many)) (sym need) ∙ e

  module _ (less : k + length input < n) where
    too_few : is_short (h ++ input) ≡ true
    too_few = short_by true (lt-ltb _ _ less)

    pub gathered_short : Short (k + length input) ≡ gathered h input
    unfolding gathered
    gathered_short =
        ap Short (ap (λ (m : ℕ). m + length input) many ∙ sym (length-append h input))
        ∙ sym (ap (λ (b : Bool). pick b (Short (length (h ++ input))) (Enough (needed_of (h ++ input)))) too_few)

    pub room_short : (room : List ℕ) → placed room k input ≡ room_after h input room
    unfolding room_after copied
    room_short room =
        ap₂ (placed room) many (sym (take-length input))
        ∙ sym (ap (λ (b : Bool). placed room (length h) (take (pick b (length input) (pick (eqb (length h) 0) 0 (needed_of (h ++ input) - length h))) input)) too_few)

  module _ (more : n ≤ k + length input) where
    enough : is_short (h ++ input) ≡ false
    enough = short_by false (le-ltb _ _ more)

    pub gathered_enough : Enough n ≡ gathered h input
    unfolding gathered
    gathered_enough = ap Enough need ∙ sym (ap (λ (b : Bool). pick b (Short (length (h ++ input))) (Enough (needed_of (h ++ input)))) enough)

    -- some bytes were held: those up to the FPDU's end are put behind them
    pub room_rest : 0 < k → (room : List ℕ) → placed room k (take (n - k) input) ≡ room_after h input room
    unfolding room_after copied
    room_rest some room =
        ap₂ (λ (a b : ℕ). placed room a (take (b - a) input)) many need
        ∙ sym (ap₂ (λ (b c : Bool). placed room (length h) (take (pick b (length input) (pick c 0 (needed_of (h ++ input) - length h))) input)) enough (ne_eqb (length h) 0 (λ e. omega (arith, some, many, e))))

    -- none were held, or more than are needed: nothing is put
    none-put : (m : ℕ) → copied h input ≡ m → m ≡ 0 → (room : List ℕ) → room ≡ room_after h input room
    unfolding room_after
    none-put m e z room = sym (placed-none room (length h)) ∙ sym (ap (λ (i : ℕ). placed room (length h) (take i input)) (e ∙ z))

    copied_is : copied h input ≡ pick (eqb (length h) 0) 0 (needed_of (h ++ input) - length h)
    unfolding copied
    copied_is = ap (λ (b : Bool). pick b (length input) (pick (eqb (length h) 0) 0 (needed_of (h ++ input) - length h))) enough

    pub room_fresh : k ≡ 0 → (room : List ℕ) → room ≡ room_after h input room
    room_fresh e = none-put 0 (copied_is ∙ ap (λ (b : Bool). pick b 0 (needed_of (h ++ input) - length h)) (eq-eqb (length h) 0 (sym many ∙ e))) refl

    pub room_over : n ≤ k → (room : List ℕ) → room ≡ room_after h input room
    room_over over = none-put (pick (eqb (length h) 0) 0 (needed_of (h ++ input) - length h)) copied_is (go (eqb (length h) 0))
      where
        go : (b : Bool) → pick b 0 (needed_of (h ++ input) - length h) ≡ 0
        go true = refl
        go false = omega (arith, over, many, need)
