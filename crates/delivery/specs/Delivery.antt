-- A message's FPDUs, received one after the other on a stream of a domain: what is answered, and what becomes of the domain and its bytes.
use Rattle.std.specs.Prelude.{ℕ, suc, ◌≡◌, Bool, List, [], ◌∷◌, ◌++◌, length, set}
use Rattle.wire.specs.Wire.{pick, part}
use Rattle.mpa.specs.Fpdu.{fpdu_of}
use Rattle.ddp.specs.Segment.{segment_read}
use Rattle.ddp.specs.declared.segment.SegmentRead.{SegmentRead}
use Rattle.ddp.specs.declared.segment.SegmentRead.TheVariants.{Wait as SegmentWait, Tagged as TaggedSegment, Untagged as UntaggedSegment}
use Rattle.memory.specs.Window.{slot_named}
use Rattle.rdmap.specs.Message.{takes_stag}
use Rattle.rdmap.specs.Stream.{sent_on}
use Rattle.meter.specs.Gauge.{counted_meter}
use Rattle.arrival.specs.Parts.{killed}
use Rattle.domain.specs.Domain.{stream_at, with_meter, domain_received, domain_received_bytes}
use Rattle.domain.specs.declared.Domain.{Domain}
use Rattle.arrival.specs.declared.Event.{Event}
use Rattle.arrival.specs.declared.Event.TheVariants.{Sent, SentInvalidating, Terminated}
use Rattle.arrival.specs.declared.Answer.{Answer}
use Rattle.arrival.specs.declared.Answer.TheVariants.{Wait, Taken, Ended}
use Rattle.sender.specs.Message.{segments_of}
use Rattle.sender.specs.declared.Message.{Message}
use Rattle.std.specs.Prelude.{Err, None, Ok, Option, Result, Some}
use Rattle.ddp.specs.declared.refusal.Refusal.{Refusal}
use Rattle.wire.specs.declared.refusal.LocalRefusal.{LocalRefusal}

-- ---- what is sent

-- each segment in an FPDU
unfoldable pub framed : List (List ℕ) → List (List ℕ)
framed [] = []
framed (u ∷ us) = fpdu_of u ∷ framed us

-- all of a message's FPDUs: there is at most one more of them than the message has bytes
abbrev pub fpdus_of : Message → List ℕ → List (List ℕ)
fpdus_of m message = framed (segments_of (suc m.len) m message)

-- the bytes that are given at each call begin with its FPDU: what comes after is not looked at
abbrev pub Begin : List (List ℕ) → List (List ℕ) → Type 0
Begin [] [] = Unit {0}
Begin [] (f ∷ fs) = ⊥
Begin (i ∷ is) [] = ⊥
Begin (i ∷ is) (f ∷ fs) = ((rest : List ℕ) × (i ≡ f ++ rest)) × Begin is fs

-- ---- what is received

-- the answers in their order, and the domain and its bytes after the last
pub record Outcome : Type 0 where
  pub answers : List (Result Answer LocalRefusal)
  pub domain : Domain
  pub bytes : List ℕ

abbrev pub answering : Result Answer LocalRefusal → Outcome → Outcome
answering a r = record { answers = a ∷ r.answers; domain = r.domain; bytes = r.bytes }

-- receive is called with each of the inputs, in the domain that the call before left
unfoldable pub received_all : Domain → ℕ → ℕ → List ℕ → List (List ℕ) → Outcome
received_all d number slot bytes [] = record { answers = []; domain = d; bytes = bytes }
received_all d number slot bytes (f ∷ fs) =
    answering (domain_received d number slot f).0
    (received_all (domain_received d number slot f).1 number slot (domain_received_bytes d number slot f bytes) fs)

-- the payload that an FPDU's segment carries
abbrev pub payload_in : List ℕ → Result SegmentRead Refusal → List ℕ
payload_in input (Ok (SegmentWait n)) = []
payload_in input (Err r) = []
payload_in input (Ok (TaggedSegment total h start len)) = part input start len
payload_in input (Ok (UntaggedSegment total h start len)) = part input start len

-- the payloads that are read, joined
unfoldable pub payloads : Bool → List (List ℕ) → List ℕ
payloads crc [] = []
payloads crc (f ∷ fs) = payload_in f (segment_read crc f) ++ payloads crc fs

-- ---- what is promised

-- every FPDU is taken whole, and the one event is on the last
abbrev pub event_then : Option Event → List (List ℕ) → Option Event
event_then e [] = e
event_then e (f ∷ fs) = None

unfoldable pub answers_of : Option Event → List (List ℕ) → List (Result Answer LocalRefusal)
answers_of e [] = []
answers_of e (f ∷ fs) = Ok (Taken (length f) (event_then e fs)) ∷ answers_of e fs

-- what a Send of an opcode invalidates
abbrev pub invalidates : ℕ → ℕ → Option (ℕ × ℕ)
invalidates opcode stag = pick (takes_stag opcode) (Some ((slot_named stag), stag)) None

-- the domain after a Send of len bytes: the MSN has risen by one, the buffer is gone, nothing is under way, the window that it
-- invalidates is dead, and its bytes are counted
abbrev pub sent_domain : Domain → ℕ → Option (ℕ × ℕ) → ℕ → Domain
sent_domain d slot inv len = record {
  part = d.part;
  windows = killed inv d.windows;
  streams = set d.streams slot (sent_on (stream_at d slot));
  meter = counted_meter d.meter len;
}

-- the domain after a Write of len bytes: they are counted
abbrev pub written_domain : Domain → ℕ → Domain
written_domain d len = with_meter d (counted_meter d.meter len)

-- the events of some answers
abbrev pub with_event : Option Event → List (Option Event) → List (Option Event)
with_event None es = es
with_event (Some event) es = Some event ∷ es

unfoldable pub events_of : List (Result Answer LocalRefusal) → List (Option Event)
events_of [] = []
events_of (Ok (Wait n) ∷ rest) = events_of rest
events_of (Ok (Taken total e) ∷ rest) = with_event e (events_of rest)
events_of (Ok (Ended r) ∷ rest) = events_of rest
events_of (Err k ∷ rest) = events_of rest
