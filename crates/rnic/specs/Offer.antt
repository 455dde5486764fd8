-- An offer on the device: a receive that may be cut anywhere. It is lent the store and a second slice, of one room for each of the sixteen
-- streams, in which a stream keeps the bytes of an FPDU that is not complete.
use Rattle.std.specs.Prelude.{ℕ, ◌*◌, ◌/◌, ◌%◌, Bool, List, length, take, leb, eqb}
use borrow.Rule.Slice.PartMut.{mid_of, put_mid}
use Rattle.wire.specs.Wire.{pick, both}
use Rattle.memory.specs.Part.{part_fits}
use Rattle.rdmap.specs.declared.stream.Stream.{Stream}
use Rattle.domain.specs.Domain.{stream_at}
use Rattle.holding.specs.Pending.{room_bytes}
use Rattle.holding.specs.Offer.{offer_answer, stream_room, domain_offered, domain_offered_bytes}
use Rattle.holding.specs.declared.OfferAnswer.{OfferAnswer}
use Rattle.rnic.specs.Rnic.{domain_at, with_domain, bytes_of, with_bytes}
use Rattle.rnic.specs.declared.Rnic.{Rnic}
use Rattle.std.specs.Prelude.{Err, Result}
use Rattle.wire.specs.declared.refusal.LocalRefusal.{LocalRefusal}
use Rattle.wire.specs.declared.refusal.LocalRefusal.TheVariants.{BadPlace, OtherLength, OutOfRange}
use Rattle.arrival.specs.declared.Answer.{Answer}

-- ---- the second slice

-- "a second lent slice of one longest FPDU for each of the sixteen streams"
abbrev pub rooms_bytes : ℕ
rooms_bytes = 16 * room_bytes

-- the room of stream n, and the slice with it exchanged
abbrev pub room_of : List ℕ → ℕ → List ℕ
room_of rooms n = mid_of (n * room_bytes) room_bytes rooms

abbrev pub with_room : List ℕ → ℕ → List ℕ → List ℕ
with_room rooms n room = put_mid (n * room_bytes) room_bytes rooms room

-- "Domain d owns 4d to 4d+3"
abbrev pub stream_numbered : Rnic → ℕ → Stream
stream_numbered b n = stream_at (domain_at b (n / 4)) (n % 4)

-- how many bytes stream n holds, as its record says; 0 of a number that is no stream's
abbrev pub held_count : Rnic → ℕ → ℕ
held_count b n = pick (leb n 15) (stream_numbered b n).framing.held 0

-- and which: "of the second slice only held bytes are state"
abbrev pub held_bytes : Rnic → ℕ → List ℕ → List ℕ
held_bytes b n rooms = take (stream_numbered b n).framing.held (room_of rooms n)

-- ---- the call

-- 1 the stream's number; 2 the lent store's length is not that of opening, or the second slice's is wrong; and the guard of the owner's
-- part, which no device that was opened trips
abbrev pub offer_asked : Rnic → ℕ → ℕ → Bool
offer_asked b size many = both (eqb size b.len) (eqb many rooms_bytes)

unfoldable pub offered_owned : Rnic → ℕ → ℕ → List ℕ → List ℕ → (Result Answer LocalRefusal × Rnic)
offered_owned b size n rooms input =
    pick (part_fits (domain_at b (n / 4)).part size)
    ((domain_offered (domain_at b (n / 4)) (n / 4) (n % 4) (held_bytes b n rooms) input).0, with_domain b (n / 4) (domain_offered (domain_at b (n / 4)) (n / 4) (n % 4) (held_bytes b n rooms) input).1)
    (Err BadPlace, b)

unfoldable pub offered_owned_store : Rnic → ℕ → List ℕ → List ℕ → List ℕ → List ℕ
offered_owned_store b n rooms input mem =
    pick (part_fits (domain_at b (n / 4)).part (length mem))
    (with_bytes (domain_at b (n / 4)) mem (domain_offered_bytes (domain_at b (n / 4)) (n / 4) (n % 4) (held_bytes b n rooms) input (bytes_of (domain_at b (n / 4)) mem)))
    mem

unfoldable pub offered_owned_rooms : Rnic → ℕ → ℕ → List ℕ → List ℕ → List ℕ
offered_owned_rooms b size n rooms input =
    pick (part_fits (domain_at b (n / 4)).part size)
    (with_room rooms n (stream_room (stream_numbered b n) (held_bytes b n rooms) input (room_of rooms n)))
    rooms

-- the device, and receive's answer to the pending bytes
unfoldable pub rnic_offered : Rnic → ℕ → ℕ → List ℕ → List ℕ → (Result Answer LocalRefusal × Rnic)
rnic_offered b size n rooms input =
    pick (leb n 15)
    (pick (offer_asked b size (length rooms)) (offered_owned b size n rooms input) (Err OtherLength, b))
    (Err OutOfRange, b)

-- what the call answers
abbrev pub rnic_offer_answer : Rnic → ℕ → ℕ → List ℕ → List ℕ → Result OfferAnswer LocalRefusal
rnic_offer_answer b size n rooms input = offer_answer (length (held_bytes b n rooms)) (length input) (rnic_offered b size n rooms input).0

-- the store afterwards: the owner's bytes alone can differ
unfoldable pub rnic_offered_store : Rnic → ℕ → List ℕ → List ℕ → List ℕ → List ℕ
rnic_offered_store b n rooms input mem =
    pick (leb n 15) (pick (offer_asked b (length mem) (length rooms)) (offered_owned_store b n rooms input mem) mem) mem

-- and the second slice: the stream's own room alone can differ
unfoldable pub rnic_offered_rooms : Rnic → ℕ → ℕ → List ℕ → List ℕ → List ℕ
rnic_offered_rooms b size n rooms input =
    pick (leb n 15) (pick (offer_asked b size (length rooms)) (offered_owned_rooms b size n rooms input) rooms) rooms
