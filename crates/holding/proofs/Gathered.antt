-- Enough bytes gathered in a room begin as the pending bytes do: those held stand in front, and the needed ones of the input behind them.
use Prim.Native.Nat.{ℕ, ◌+◌, ◌-◌, ◌≤◌, ◌<◌}
use mathlib.Core.Path.{◌≡◌, refl, sym, ap, ◌∙◌}
use mathlib.Core.Bool.{Bool, false}
use mathlib.Core.List.{List, ◌++◌}
use native.Mathlib.Omega.{arith}
use native.Mathlib.Decide.{dec_lt}
use lib.ListN.{length, take, length-append, length-take}
use lib.Seq.{take-take, take-append-le, take-append-add, length-take-le}
use borrow.Author.Tests.{ltb-false, le-leb}
use Rattle.wire.specs.Wire.{pick, put}
use Rattle.wire.proofs.Laws.{take_put}
use Rattle.ddp.specs.Place.{fits, placed}
use Rattle.holding.specs.Pending.{room_bytes, needed_of, is_short, room_after}
use Rattle.holding.proofs.Pending.{needed_bounds}
use Rattle.holding.proofs.Rooms.{take-held, room_rest, room_over}

-- what fits a room is put there
put-fits : (room : List ℕ) (at : ℕ) (xs : List ℕ) → at + length xs ≤ length room → placed room at xs ≡ put room at xs
unfolding placed fits
put-fits room at xs h = ap (λ (b : Bool). pick b (put room at xs) room) (le-leb (at + length xs) (length room) h)

-- the bytes that a count says are held
module _ (room : List ℕ) (k : ℕ) where
  abbrev h : List ℕ
  h = take k room

  held_in_lem : (length h ≤ k) × (length h ≤ length room)
  held_in_lem = (omega (arith, length-take k room), omega (arith, length-take k room))

  module _ (input : List ℕ) (long : length room ≡ room_bytes) (some : 0 < length h) (enough : is_short (h ++ input) ≡ false) where
    abbrev n : ℕ
    n = needed_of (h ++ input)

    more : n ≤ length h + length input
    unfolding is_short
    more = let e = ltb-false (length (h ++ input)) n enough in omega (arith, e, length-append h input)

    pub room-enough : take n (room_after h input room) ≡ take n (h ++ input)
    room-enough = go (dec_lt n (length h))
      where
        go : Dec (n < length h) → take n (room_after h input room) ≡ take n (h ++ input)
        go (yes l) =
            ap (take n) (sym (room_over h input (length h) n refl refl more (omega (arith, l)) room))
            ∙ sym (take-take n k room (omega (arith, l, held_in_lem.0)))
            ∙ sym (take-append-le n h input (omega (arith, l)))
        go (no l) =
            let c : ℕ = n - length h in
            let many : length (take c input) ≡ c = length-take-le c input (omega (arith, more, l)) in
            let sum : length h + c ≡ n = omega (arith, l) in
            let inside : length h + length (take c input) ≤ length room = omega (arith, many, sum, long, (needed_bounds (h ++ input)).1) in
            ap (take n) (sym (room_rest h input (length h) n refl refl more some room))
            ∙ ap (take n) (put-fits room (length h) (take c input) inside)
            ∙ ap (λ (m : ℕ). take m (put room (length h) (take c input))) (let e : n ≡ length h + length (take c input) = omega (arith, many, sum) in e)
            ∙ take_put room (length h) (take c input) held_in_lem.1
            ∙ ap (λ (l : List ℕ). l ++ take c input) (take-held k room)
            ∙ sym (take-append-add h input c)
            ∙ ap (λ (m : ℕ). take m (h ++ input)) sum
