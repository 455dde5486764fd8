-- The device with what receive makes of a domain: `lifted` of the crate `domain`, put in the domain's entry.
use Rattle.std.specs.Prelude.{ℕ, List, ◌++◌, length, take}
use Rattle.wire.specs.Wire.{pick}
use Rattle.memory.specs.declared.part.Part.{Part}
use Rattle.rdmap.specs.declared.stream.Stream.{Stream}
use Rattle.ddp.specs.Segment.{segment_read}
use Rattle.ddp.specs.declared.segment.SegmentRead.{SegmentRead}
use Rattle.domain.specs.Domain.{metered, lifted}
use Rattle.arrival.specs.Parts.{parts_unchanged, parts_received, parts_received_bytes}
use Rattle.holding.specs.Offer.{holds, offer_answer, parts_offered, parts_offered_bytes, stream_room}
use Rattle.holding.specs.declared.OfferAnswer.{OfferAnswer}
use Rattle.arrival.specs.declared.parts.PartsReceived.{PartsReceived}
use Rattle.memory.specs.declared.window.Window.{Window}
use Rattle.rdmap.specs.declared.message.Verdict.{Verdict}
use Rattle.rdmap.specs.declared.message.Verdict.TheVariants.{Nothing, Write, SendMore, SendLast, Read, Terminate}
use Rattle.rnic.specs.Rnic.{domain_at, with_domain}
use Rattle.rnic.specs.declared.Rnic.{Rnic}
use Rattle.block.specs.Exchange.{stream_of}
use Rattle.std.specs.Prelude.{Err, Ok, Result}
use Rattle.ddp.specs.declared.refusal.Refusal.{Refusal}
use Rattle.wire.specs.declared.refusal.LocalRefusal.{LocalRefusal}
use Rattle.wire.specs.declared.refusal.LocalRefusal.TheVariants.{HoldsBytes}

abbrev pub lifted_of : Rnic → ℕ → ℕ → PartsReceived → Rnic
lifted_of b d j r = with_domain b d (lifted (domain_at b d) j r).1

-- the same, with the payload bytes of a taken Write or Send counted
abbrev pub counted_of : Rnic → ℕ → ℕ → Result SegmentRead Refusal → PartsReceived → Rnic
counted_of b d j x r = with_domain b d (metered r.answer x (lifted (domain_at b d) j r).1)

-- a verdict that there is on a tagged segment: refused, empty or written
abbrev pub OfTagged : Result Verdict Refusal → Type 0
OfTagged (Err r) = Unit {0}
OfTagged (Ok Nothing) = Unit {0}
OfTagged (Ok (Write at)) = Unit {0}
OfTagged (Ok (SendMore at opcode taken)) = ⊥
OfTagged (Ok (SendLast at opcode start len inv)) = ⊥
OfTagged (Ok (Read r)) = ⊥
OfTagged (Ok (Terminate layer etype code)) = ⊥

-- ---- streams that hold bytes

-- receive over the parts of a domain that it needs: 16 while the stream holds bytes
unfoldable pub parts_receives : List Window → ℕ → Stream → List ℕ → PartsReceived
parts_receives ws number s input = pick (holds s) (parts_unchanged s (Err HoldsBytes)) (parts_received ws number s input)

-- the device after it
abbrev pub receives_rnic_of : Rnic → ℕ → ℕ → List ℕ → Rnic
receives_rnic_of b d j input = counted_of b d j (segment_read (stream_of b d j).framing.crc input) (parts_receives (domain_at b d).windows d (stream_of b d j) input)

unfoldable pub parts_receives_bytes : Part → List Window → ℕ → Stream → List ℕ → List ℕ → List ℕ
parts_receives_bytes p ws number s input bytes = pick (holds s) bytes (parts_received_bytes p ws number s input bytes)

-- the bytes that the stream of a domain's slot holds, in its room
abbrev pub held_in : Rnic → ℕ → ℕ → List ℕ → List ℕ
held_in b d j room = take (stream_of b d j).framing.held room

-- an offer on that stream, and the domain's bytes and the room after it
abbrev pub offered_of : Rnic → ℕ → ℕ → List ℕ → List ℕ → PartsReceived
offered_of b d j room input = parts_offered (domain_at b d).windows d (stream_of b d j) (held_in b d j room) input

-- the device after it
abbrev pub offered_rnic_of : Rnic → ℕ → ℕ → List ℕ → List ℕ → Rnic
offered_rnic_of b d j room input =
    counted_of b d j (segment_read (stream_of b d j).framing.crc (held_in b d j room ++ input)) (offered_of b d j room input)

abbrev pub offered_bytes_of : Rnic → ℕ → ℕ → Part → List ℕ → List ℕ → List ℕ → List ℕ
offered_bytes_of b d j p room input bytes = parts_offered_bytes p (domain_at b d).windows d (stream_of b d j) (held_in b d j room) input bytes

abbrev pub offered_room_of : Rnic → ℕ → ℕ → List ℕ → List ℕ → List ℕ
offered_room_of b d j room input = stream_room (stream_of b d j) (held_in b d j room) input room

-- what the call answers
abbrev pub offer_answer_of : Rnic → ℕ → ℕ → List ℕ → List ℕ → Result OfferAnswer LocalRefusal
offer_answer_of b d j room input = offer_answer (length (held_in b d j room)) (length input) (offered_of b d j room input).answer
