-- An offer that is lent both slices: the view that its owner's book says fits where the owner's was, with the one room that the offer changed.
-- The stream's own room then starts with what the stream holds, and every other room is as it was.
use Prim.Native.Nat.{ℕ, ◌+◌, ◌*◌, ◌/◌, ◌%◌, ◌<◌}
use mathlib.Core.Logic.{◌≢◌}
use mathlib.Core.Path.{◌≡◌, refl, sym, ap, ap₂, subst, ◌∙◌}
use mathlib.Core.Bool.{Bool, true, false}
use mathlib.Core.List.{List, []}
use native.Mathlib.Omega.{arith}
use lib.ListN.{length, take}
use lib.Dec.{leb, eqb}
use borrow.Author.Tests.{leb-true, leb-false, le-leb, eqb-true, eqb-false}
use Rattle.wire.specs.Wire.{pick}
use Rattle.rdmap.specs.declared.stream.Stream.{Stream}
use Rattle.domain.specs.Domain.{stream_at}
use Rattle.domain.specs.declared.Domain.{Domain}
use Rattle.holding.specs.Pending.{room_bytes}
use Rattle.holding.specs.Offer.{stream_room, domain_offered, domain_offered_held}
use Rattle.rnic.specs.Rnic.{domain_at, bytes_of}
use Rattle.rnic.specs.Offer.{room_of, with_room, held_bytes}
use Rattle.isolation.specs.Book.{View, book_offer}
use Rattle.isolation.proofs.Calls.{World, held_in, view}
use Rattle.holding.proofs.Held.{domain-room-holds}
use Rattle.holding.proofs.Held.{room-long as room-as-long}
use Rattle.isolation.proofs.Kept.{offered-part, offered-others, offered_many}
use Rattle.isolation.proofs.Parts.{room-long, rooms-long, room-same, room_other}
use Rattle.isolation.proofs.WellFormed.{Fit, Frame}

-- the room of a stream, by its domain and its slot
own_room : (n : ℕ) → 4 * (n / 4) + n % 4 ≡ n
own_room n = omega arith

-- what a stream holds, in its owner's view
pub held-is : (w : World) (n : ℕ) → (view (n / 4) w).held (n % 4) ≡ held_bytes w.dev n w.rooms
held-is w n =
    ap₂ (λ (t : Bool) (i : ℕ). pick t (take (stream_at (domain_at w.dev (n / 4)) (n % 4)).framing.held (room_of w.rooms i)) []) (le-leb (n % 4) 3 (omega arith)) (own_room n)

module _ (w : World) (f : Fit w) (n : ℕ) (low : n < 16) (input : List ℕ) where
  abbrev d : Domain
  d = domain_at w.dev (n / 4)

  abbrev s : Stream
  s = stream_at d (n % 4)

  abbrev v : View
  v = view (n / 4) w

  abbrev room : List ℕ
  room = room_of w.rooms n

  -- the room afterwards, and all of them
  abbrev then : List ℕ
  then = stream_room s (held_bytes w.dev n w.rooms) input room

  abbrev pub rooms_then : List ℕ
  rooms_then = with_room w.rooms n then

  then-long : length then ≡ room_bytes
  then-long = room-as-long s (held_bytes w.dev n w.rooms) input room ∙ room-long w.rooms f.roomy n low

  -- the domain afterwards
  abbrev after : Domain
  after = (domain_offered d (n / 4) (n % 4) (v.held (n % 4)) input).1

  own-holds : take (stream_at after (n % 4)).framing.held (room_of rooms_then (4 * (n / 4) + n % 4)) ≡ domain_offered_held d (n / 4) (n % 4) (v.held (n % 4)) input
  own-holds =
      ap₂ (λ (h : List ℕ) (i : ℕ). take (stream_at (domain_offered d (n / 4) (n % 4) h input).1 (n % 4)).framing.held (room_of rooms_then i)) (held-is w n) (own_room n)
      ∙ ap (take (stream_at (domain_offered d (n / 4) (n % 4) (held_bytes w.dev n w.rooms) input).1 (n % 4)).framing.held) (room-same w.rooms f.roomy n low then then-long)
      ∙ domain-room-holds d (n / 4) (n % 4) (omega arith) input room (room-long w.rooms f.roomy n low)
      ∙ ap (λ (h : List ℕ). domain_offered_held d (n / 4) (n % 4) h input) (sym (held-is w n))

  holds : (slot : ℕ) → held_in (n / 4) after rooms_then slot ≡ pick (eqb slot (n % 4)) (domain_offered_held d (n / 4) (n % 4) (v.held (n % 4)) input) (v.held slot)
  holds slot = go (leb slot 3) refl (eqb slot (n % 4)) refl
    where
      go :
          (t : Bool) → leb slot 3 ≡ t → (u : Bool) → eqb slot (n % 4) ≡ u →
          pick t (take (stream_at after slot).framing.held (room_of rooms_then (4 * (n / 4) + slot))) []
          ≡ pick u (domain_offered_held d (n / 4) (n % 4) (v.held (n % 4)) input) (pick t (take (stream_at d slot).framing.held (room_of w.rooms (4 * (n / 4) + slot))) [])
      go false p true q = absurd (omega (arith, leb-false slot 3 p, eqb-true slot (n % 4) q))
      go false p false q = refl
      go true p true q =
          subst (λ (i : ℕ). take (stream_at after i).framing.held (room_of rooms_then (4 * (n / 4) + i)) ≡ domain_offered_held d (n / 4) (n % 4) (v.held (n % 4)) input) (sym (eqb-true slot (n % 4) q)) own-holds
      go true p false q =
          let ne : slot ≢ n % 4 = eqb-false slot (n % 4) q in
          ap₂ (λ (x : Stream) (l : List ℕ). take x.framing.held l) (offered-others d (n / 4) (n % 4) (v.held (n % 4)) input slot ne)
          (room_other w.rooms f.roomy n low then then-long (4 * (n / 4) + slot) (λ e. ne (omega (arith, e, leb-true slot 3 p))))

  pub offer-frame : Frame (n / 4) w (book_offer (n / 4) v n input).after rooms_then
  offer-frame = record {
    part = offered-part d (n / 4) (n % 4) (v.held (n % 4)) input;
    many = offered_many d (n / 4) (n % 4) (v.held (n % 4)) input (bytes_of d w.mem);
    size = refl;
    roomy = rooms-long w.rooms f.roomy n low then then-long;
    holds = holds;
    others = λ A slot h ne l. room_other w.rooms f.roomy n low then then-long (4 * A + slot) (λ e. ne (omega (arith, e, l)));
  }
