-- What receive does over the parts of a domain that it needs: its part of the store, its windows and one stream. A domain's
-- receive is this, lifted: the stream of the slot is exchanged, and the window that a Send invalidated is dead.
use Rattle.std.specs.Prelude.{ℕ, ◌-◌, List, length, leb}
use Rattle.wire.specs.Wire.{pick, part}
use Rattle.memory.specs.Window.{window_at, dropped, slot_named}
use Rattle.ddp.specs.Tagged.{tagged_of}
use Rattle.ddp.specs.Untagged.{untagged_of}
use Rattle.ddp.specs.Place.{placed}
use Rattle.ddp.specs.Segment.{segment_read}
use Rattle.memory.specs.declared.part.Part.{Part}
use Rattle.ddp.specs.declared.header.TaggedHeader.{TaggedHeader}
use Rattle.ddp.specs.declared.segment.SegmentRead.{SegmentRead}
use Rattle.ddp.specs.declared.segment.SegmentRead.TheVariants.{Wait as SegmentWait, Tagged as TaggedSegment, Untagged as UntaggedSegment}
use Rattle.memory.specs.declared.window.Window.{Window}
use Rattle.rdmap.specs.Message.{write_verdict, stag_named, queue_of, untagged_verdict}
use Rattle.rdmap.specs.Phase.{readiness}
use Rattle.rdmap.specs.Sends.{current_buffer}
use Rattle.rdmap.specs.Stream.{ended_by, terminated_by, sending_on, sent_on, queued_on}
use Rattle.rdmap.specs.declared.message.Verdict.{Verdict}
use Rattle.rdmap.specs.declared.message.Verdict.TheVariants.{Nothing, Write, SendMore, SendLast, Read, Terminate}
use Rattle.rdmap.specs.declared.stream.Stream.{Stream}
use Rattle.arrival.specs.declared.Event.{Event}
use Rattle.arrival.specs.declared.Event.TheVariants.{Sent, SentInvalidating, Terminated}
use Rattle.arrival.specs.declared.Answer.{Answer}
use Rattle.arrival.specs.declared.Answer.TheVariants.{Wait, Taken, Ended}
use Rattle.arrival.specs.declared.parts.Judged.{Judged}
use Rattle.arrival.specs.declared.parts.Judged.TheVariants.{Wait as JudgedWait, Fpdu}
use Rattle.arrival.specs.declared.parts.PartsReceived.{PartsReceived}
use Rattle.std.specs.Prelude.{Err, None, Ok, Option, Result, Some, ⊤}
use Rattle.ddp.specs.declared.refusal.Refusal.{Refusal}
use Rattle.wire.specs.declared.refusal.LocalRefusal.{LocalRefusal}

-- "event: buffer start, message length, opcode, and for 4 and 6 the STag"
abbrev pub sent_event : ℕ → ℕ → ℕ → Option (ℕ × ℕ) → Option Event
sent_event start len opcode None = Some (Sent start len opcode)
sent_event start len opcode (Some (slot, stag)) = Some (SentInvalidating start len opcode stag)

abbrev pub parts_taken : Stream → ℕ → Option Event → Option (ℕ × ℕ) → PartsReceived
parts_taken s total event inv = record { answer = Ok (Taken total event); stream = s; invalidate = inv }

-- what a verdict makes of the stream, and the answer: "Taken, with the FPDU's total and an event, or a refusal"
unfoldable pub parts_applied : Stream → ℕ → Result Verdict Refusal → PartsReceived
parts_applied s total (Err r) = record { answer = Ok (Ended r); stream = ended_by s r; invalidate = None }
parts_applied s total (Ok Nothing) = parts_taken s total None None
parts_applied s total (Ok (Write at)) = parts_taken s total None None
parts_applied s total (Ok (SendMore at opcode taken)) = parts_taken (sending_on s opcode taken) total None None
parts_applied s total (Ok (SendLast at opcode start len inv)) = parts_taken (sent_on s) total (sent_event start len opcode inv) inv
parts_applied s total (Ok (Read r)) = parts_taken (queued_on s r) total None None
parts_applied s total (Ok (Terminate layer etype code)) = parts_taken (terminated_by s) total (Some (Terminated layer etype code)) None

-- a payload placed in the domain's bytes, which start at a place of the store; one that does not lie in them is not placed
unfoldable pub placed_from : ℕ → ℕ → List ℕ → List ℕ → List ℕ
placed_from start at payload bytes = pick (leb start at) (placed bytes (at - start) payload) bytes

-- and of the domain's bytes: "payload byte i goes to place + (TO − base) + i", "to buffer start + MO + i"
unfoldable pub applied_bytes : ℕ → Result Verdict Refusal → List ℕ → List ℕ → List ℕ
applied_bytes start (Err r) payload bytes = bytes
applied_bytes start (Ok Nothing) payload bytes = bytes
applied_bytes start (Ok (Write at)) payload bytes = placed_from start at payload bytes
applied_bytes start (Ok (SendMore at opcode taken)) payload bytes = placed_from start at payload bytes
applied_bytes start (Ok (SendLast at opcode from len inv)) payload bytes = placed_from start at payload bytes
applied_bytes start (Ok (Read r)) payload bytes = bytes
applied_bytes start (Ok (Terminate layer etype code)) payload bytes = bytes

-- what a tagged segment of a header and a payload of len bytes is judged to be, by the window in the slot that its STag names
abbrev pub tagged_verdict : Window → ℕ → TaggedHeader → ℕ → Result Verdict Refusal
tagged_verdict w number h len = write_verdict w h.control (tagged_of w number h.stag h.to len)

-- what the segment is judged to be
abbrev pub parts_verdict : List Window → ℕ → Stream → List ℕ → Result SegmentRead Refusal → Result Verdict Refusal
parts_verdict ws number s input (Ok (SegmentWait n)) = (Ok Nothing)
parts_verdict ws number s input (Err r) = Err r
parts_verdict ws number s input (Ok (TaggedSegment total h start len)) =
    tagged_verdict (window_at ws (slot_named h.stag)) number h len
parts_verdict ws number s input (Ok (UntaggedSegment total h start len)) =
    let payload : List ℕ = part input start len in
    untagged_verdict (window_at ws (slot_named (stag_named h payload))) number s.sends.opcode (current_buffer s.sends) h payload
    (untagged_of (queue_of s h.qn) h.qn h.msn h.mo (length payload))

-- and the FPDU that it came in, with its total: "handles that first FPDU only"
abbrev pub parts_judged : List Window → ℕ → Stream → List ℕ → Result SegmentRead Refusal → Judged
parts_judged ws number s input (Ok (SegmentWait n)) = JudgedWait n
parts_judged ws number s input (Err r) = Fpdu 0 (Err r)
parts_judged ws number s input (Ok (TaggedSegment total h start len)) =
    Fpdu total (parts_verdict ws number s input (Ok (TaggedSegment total h start len)))
parts_judged ws number s input (Ok (UntaggedSegment total h start len)) =
    Fpdu total (parts_verdict ws number s input (Ok (UntaggedSegment total h start len)))

-- the domain's bytes, with the payload that it carried in its place
abbrev pub parts_placed : Part → List Window → ℕ → Stream → List ℕ → List ℕ → Result SegmentRead Refusal → List ℕ
parts_placed p ws number s input bytes (Ok (SegmentWait n)) = bytes
parts_placed p ws number s input bytes (Err r) = bytes
parts_placed p ws number s input bytes (Ok (TaggedSegment total h start len)) =
    applied_bytes p.start (parts_verdict ws number s input (Ok (TaggedSegment total h start len))) (part input start len) bytes
parts_placed p ws number s input bytes (Ok (UntaggedSegment total h start len)) =
    applied_bytes p.start (parts_verdict ws number s input (Ok (UntaggedSegment total h start len))) (part input start len) bytes

abbrev pub parts_unchanged : Stream → Result Answer LocalRefusal → PartsReceived
parts_unchanged s a = record { answer = a; stream = s; invalidate = None }

abbrev pub parts_answered : Stream → Judged → PartsReceived
parts_answered s (JudgedWait n) = parts_unchanged s (Ok (Wait n))
parts_answered s (Fpdu total v) = parts_applied s total v

-- the local refusals 3 and 5 first
abbrev pub parts_when : List Window → ℕ → Stream → List ℕ → Result ⊤ LocalRefusal → PartsReceived
parts_when ws number s input (Ok tt) = parts_answered s (parts_judged ws number s input (segment_read s.framing.crc input))
parts_when ws number s input (Err k) = parts_unchanged s (Err k)

abbrev pub parts_bytes_when : Part → List Window → ℕ → Stream → List ℕ → List ℕ → Result ⊤ LocalRefusal → List ℕ
parts_bytes_when p ws number s input bytes (Ok tt) = parts_placed p ws number s input bytes (segment_read s.framing.crc input)
parts_bytes_when p ws number s input bytes (Err k) = bytes

-- receive on a stream of domain number: the answer, the stream and what it invalidated
unfoldable pub parts_received : List Window → ℕ → Stream → List ℕ → PartsReceived
parts_received ws number s input = parts_when ws number s input (readiness s.phase)

-- and the domain's bytes of the store
unfoldable pub parts_received_bytes : Part → List Window → ℕ → Stream → List ℕ → List ℕ → List ℕ
parts_received_bytes p ws number s input bytes = parts_bytes_when p ws number s input bytes (readiness s.phase)

-- ---- what it makes of the domain

-- "whose window is then dead": it is dropped
abbrev pub killed : Option (ℕ × ℕ) → List Window → List Window
killed None ws = ws
killed (Some (slot, stag)) ws = (dropped ws slot).1
