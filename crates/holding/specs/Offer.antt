-- A stream that holds a partial FPDU: what offering it bytes does, over the pending bytes, and what receive does while it holds some.
use Rattle.std.specs.Prelude.{ℕ, ◌+◌, ◌-◌, Bool, List, [], ◌++◌, length, leb, ltb, eqb}
use Rattle.wire.specs.Wire.{pick, both}
use Rattle.memory.specs.declared.part.Part.{Part}
use Rattle.memory.specs.declared.window.Window.{Window}
use Rattle.rdmap.specs.Stream.{holding}
use Rattle.rdmap.specs.declared.stream.Stream.{Stream}
use Rattle.ddp.specs.Segment.{segment_read}
use Rattle.domain.specs.Domain.{stream_at, metered_of, domain_received, domain_received_bytes, lifted}
use Rattle.arrival.specs.Parts.{parts_unchanged, parts_received, parts_received_bytes}
use Rattle.domain.specs.declared.Domain.{Domain}
use Rattle.arrival.specs.declared.Answer.{Answer}
use Rattle.arrival.specs.declared.Answer.TheVariants.{Wait, Taken, Ended}
use Rattle.arrival.specs.declared.parts.PartsReceived.{PartsReceived}
use Rattle.holding.specs.Pending.{room_after}
use Rattle.holding.specs.declared.OfferAnswer.{OfferAnswer}
use Rattle.holding.specs.declared.OfferAnswer.TheVariants.{Kept, Completed, Ended as OfferEnded}
use Rattle.std.specs.Prelude.{Err, Ok, Result}
use Rattle.wire.specs.declared.refusal.LocalRefusal.{LocalRefusal}
use Rattle.wire.specs.declared.refusal.LocalRefusal.TheVariants.{HoldsBytes, OutOfRange}

-- ---- receive, where a stream may hold bytes

-- an open stream that has not ended and holds bytes
abbrev pub is_open : Stream → Bool
is_open s = eqb s.phase.state 1

abbrev pub holds : Stream → Bool
holds s = both (is_open s) (ltb 0 s.framing.held)

-- of a domain's slot
abbrev pub holds_at : Domain → ℕ → Bool
holds_at d slot = both (leb slot 3) (holds (stream_at d slot))

-- "The old receive stays, and is refused with 16 while its own stream holds bytes", after 3 and 5
unfoldable pub domain_receives : Domain → ℕ → ℕ → List ℕ → (Result Answer LocalRefusal × Domain)
domain_receives d number slot input =
    pick (holds_at d slot) (Err HoldsBytes, d) (domain_received d number slot input)

-- and the domain's bytes of the store
unfoldable pub domain_receives_bytes : Domain → ℕ → ℕ → List ℕ → List ℕ → List ℕ
domain_receives_bytes d number slot input bytes = pick (holds_at d slot) bytes (domain_received_bytes d number slot input bytes)

-- ---- an offer: the stream, with nothing held, receives the pending bytes

-- what a call answers, of what receive answers to the pending bytes: "takes bytes up to the end of the first FPDU that it completes, or all
-- of them if it completes none, and says how many, but for a refusal"
abbrev pub offer_answer : ℕ → ℕ → Result Answer LocalRefusal → Result OfferAnswer LocalRefusal
offer_answer held count (Ok (Wait n)) = Ok (Kept count)
offer_answer held count (Ok (Taken total e)) = Ok (Completed (total - held) total e)
offer_answer held count (Ok (Ended r)) = Ok (OfferEnded r)
offer_answer held count (Err k) = Err k

-- what it makes of the stream: where nothing is complete it holds all of the pending bytes, and where an FPDU is, or the stream ends, none
abbrev pub parts_held : Stream → ℕ → PartsReceived → Result Answer LocalRefusal → PartsReceived
parts_held s pending r (Ok (Wait n)) = parts_unchanged (holding s pending) (Ok (Wait n))
parts_held s pending r (Ok (Taken total e)) = r
parts_held s pending r (Ok (Ended x)) = r
parts_held s pending r (Err k) = parts_unchanged s (Err k)

abbrev pub parts_held_of : Stream → ℕ → PartsReceived → PartsReceived
parts_held_of s pending r = parts_held s pending r r.answer

-- an offer over the parts of a domain that it needs, as specs/Parts.antt of the crate `arrival` has receive
unfoldable pub parts_offered : List Window → ℕ → Stream → List ℕ → List ℕ → PartsReceived
parts_offered ws number s held input = parts_held_of s (length held + length input) (parts_received ws number (holding s 0) (held ++ input))

unfoldable pub parts_offered_bytes : Part → List Window → ℕ → Stream → List ℕ → List ℕ → List ℕ → List ℕ
parts_offered_bytes p ws number s held input bytes = parts_received_bytes p ws number (holding s 0) (held ++ input) bytes

-- the bytes held afterwards
abbrev pub held_of : List ℕ → List ℕ → Result Answer LocalRefusal → List ℕ
held_of held input (Ok (Wait n)) = held ++ input
held_of held input (Ok (Taken total e)) = []
held_of held input (Ok (Ended r)) = []
held_of held input (Err k) = held

-- and the stream's room: a stream that is not open leaves it
abbrev pub stream_room : Stream → List ℕ → List ℕ → List ℕ → List ℕ
stream_room s held input room = pick (is_open s) (room_after held input room) room

-- ---- of a domain: the stream of a slot is exchanged, the window that a Send invalidated is dead, and what was placed is counted

-- the answer is receive's to the pending bytes; the call's own is `offer_answer` of it
unfoldable pub domain_offered : Domain → ℕ → ℕ → List ℕ → List ℕ → (Result Answer LocalRefusal × Domain)
domain_offered d number slot held input =
    pick (leb slot 3)
    (metered_of (segment_read (stream_at d slot).framing.crc (held ++ input)) (lifted d slot (parts_offered d.windows number (stream_at d slot) held input)))
    (Err OutOfRange, d)

unfoldable pub domain_offered_bytes : Domain → ℕ → ℕ → List ℕ → List ℕ → List ℕ → List ℕ
domain_offered_bytes d number slot held input bytes =
    pick (leb slot 3) (parts_offered_bytes d.part d.windows number (stream_at d slot) held input bytes) bytes

unfoldable pub domain_offered_held : Domain → ℕ → ℕ → List ℕ → List ℕ → List ℕ
domain_offered_held d number slot held input = held_of held input (domain_offered d number slot held input).0
