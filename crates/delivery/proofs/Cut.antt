-- How a message is cut, of what is left from a place on: a payload lies in the message, and the last one ends it.
use Prim.Native.Nat.{ℕ, ◌+◌, ◌-◌, ◌≤◌, ◌<◌}
use mathlib.Core.Path.{◌≡◌, refl, sym, ap, ◌∙◌}
use mathlib.Core.Bool.{Bool, true, false}
use mathlib.Core.List.{List, ◌++◌}
use native.Mathlib.Omega.{arith}
use lib.ListN.{length, drop, length-drop, take-append-drop}
use lib.Dec.{leb}
use lib.Seq.{take_all, drop-drop}
use borrow.Author.Tests.{leb-true, leb-false}
use Rattle.wire.specs.Wire.{pick, part}
use Rattle.wire.proofs.Laws.{length_part}
use Rattle.sender.specs.Cut.{piece_of, ends_in}

module _ (room left : ℕ) where
  pub piece_last : ends_in room left ≡ true → piece_of room left ≡ left
  unfolding piece_of ends_in
  piece_last e = ap (λ (t : Bool). pick t left room) e

  pub piece_more : ends_in room left ≡ false → (piece_of room left ≡ room) × (room < left)
  unfolding piece_of ends_in
  piece_more e = (ap (λ (t : Bool). pick t left room) e, leb-false left room e)

  pub piece_le : (piece_of room left ≤ left) × (piece_of room left ≤ room)
  unfolding piece_of
  piece_le = go (leb left room) refl
    where
      go : (t : Bool) → leb left room ≡ t → (pick t left room ≤ left) × (pick t left room ≤ room)
      go true e = (omega arith, leb-true left room e)
      go false e = (omega (arith, leb-false left room e), omega arith)

module _ (room : ℕ) (message : List ℕ) (at : ℕ) (h : at ≤ length message) where
  abbrev size : ℕ
  size = piece_of room (length message - at)

  pub piece_fits : at + size ≤ length message
  piece_fits = omega (arith, (piece_le room (length message - at)).0)

  pub piece_long : length (part message at size) ≡ size
  piece_long = length_part message at size piece_fits

  -- the last payload is all that is left
  pub last-part : ends_in room (length message - at) ≡ true → part message at size ≡ drop at message
  last-part e = take_all size (drop at message) (simp length-drop (omega (arith, piece_last room (length message - at) e)))

  -- and any payload, with what is left after it, is what was left
  pub piece_joined : part message at size ++ drop (at + size) message ≡ drop at message
  piece_joined = ap (λ (l : List ℕ). part message at size ++ l) (sym (drop-drop size at message)) ∙ take-append-drop size (drop at message)
