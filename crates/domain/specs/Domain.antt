-- What one domain does at each call, over its own state and its own bytes of the store. This is paper 01's "A's book" (a domain is the paper's branch).
use Rattle.std.specs.Prelude.{ℕ, Bool, List, get_or, set, replicate, leb, eqb}
use Rattle.wire.specs.Wire.{pick, both}
use Rattle.memory.specs.Window.{no_window, registered, dropped}
use Rattle.memory.specs.declared.window.Window.{Window}
use Rattle.meter.specs.Gauge.{counted_meter, new_meter, ticked_meter, reading_of}
use Rattle.meter.specs.declared.Meter.{Meter}
use Rattle.meter.specs.declared.gauge.Reading.{Reading}
use Rattle.ddp.specs.Segment.{segment_read}
use Rattle.ddp.specs.declared.segment.SegmentRead.{SegmentRead}
use Rattle.ddp.specs.declared.segment.SegmentRead.TheVariants.{Wait as SegmentWait, Tagged as TaggedSegment, Untagged as UntaggedSegment}
use Rattle.rdmap.specs.Stream.{no_stream, closed_stream, opened, closed, posted_on, taken_from, state_in}
use Rattle.arrival.specs.Parts.{parts_received, parts_received_bytes, killed}
use Rattle.arrival.specs.declared.parts.PartsReceived.{PartsReceived}
use Rattle.overlap.specs.Sharing.{writes}
use Rattle.domain.specs.Sharing.{domain_shares, lastly}
use Rattle.domain.specs.declared.Domain.{Domain}
use Rattle.arrival.specs.declared.Answer.{Answer}
use Rattle.arrival.specs.declared.Answer.TheVariants.{Wait, Taken, Ended}
use Rattle.rdmap.specs.declared.stream.Stream.{Stream}
use Rattle.std.specs.Prelude.{Err, Ok, Result}
use Rattle.ddp.specs.declared.refusal.Refusal.{Refusal}
use Rattle.rdmap.specs.declared.stream.State.{State}
use Rattle.wire.specs.declared.refusal.LocalRefusal.{LocalRefusal}
use Rattle.wire.specs.declared.refusal.LocalRefusal.TheVariants.{OutOfRange}
use Rattle.std.specs.Prelude.{⊤}
use Rattle.rdmap.specs.declared.stream.Left.{Left}
use Rattle.rdmap.specs.declared.read.ReadRequest.{ReadRequest}

abbrev pub stream_at : Domain → ℕ → Stream
stream_at d slot = get_or d.streams slot no_stream

abbrev pub with_stream : Domain → ℕ → Stream → Domain
with_stream d slot s = record { part = d.part; windows = d.windows; streams = set d.streams slot s; meter = d.meter }

abbrev pub with_windows : Domain → List Window → Domain
with_windows d ws = record { part = d.part; windows = ws; streams = d.streams; meter = d.meter }

-- "At first all windows are dead with no last key and all streams closed"
abbrev pub new_domain : ℕ → ℕ → Domain
new_domain start end = record { part = record { start = start; end = end }; windows = replicate 16 no_window; streams = replicate 4 closed_stream; meter = new_meter }

-- ---- streams

-- "open, close, register and drop set that one entry"
unfoldable pub domain_opened : Domain → ℕ → Bool → (Result ⊤ LocalRefusal × Domain)
domain_opened d slot crc =
    pick (leb slot 3)
    ((opened (stream_at d slot) crc).0, with_stream d slot (opened (stream_at d slot) crc).1)
    (Err OutOfRange, d)

unfoldable pub domain_closed : Domain → ℕ → (Result Left LocalRefusal × Domain)
domain_closed d slot =
    pick (leb slot 3)
    ((closed (stream_at d slot)).0, with_stream d slot (closed (stream_at d slot)).1)
    (Err OutOfRange, d)

-- "post adds a buffer at the end"; 19 where it shares a byte with a live write window or a waiting buffer of the domain
unfoldable pub domain_posted : Domain → ℕ → ℕ → ℕ → (Result ⊤ LocalRefusal × Domain)
domain_posted d slot start len =
    pick (leb slot 3)
    (lastly (domain_shares d start len) d
    ((posted_on (stream_at d slot) d.part start len).0, with_stream d slot (posted_on (stream_at d slot) d.part start len).1))
    (Err OutOfRange, d)

-- "taking a read removes the oldest"
unfoldable pub domain_taken : Domain → ℕ → (Result ReadRequest LocalRefusal × Domain)
domain_taken d slot =
    pick (leb slot 3)
    ((taken_from (stream_at d slot)).0, with_stream d slot (taken_from (stream_at d slot)).1)
    (Err OutOfRange, d)

-- a question, which changes nothing
unfoldable pub domain_state : Domain → ℕ → Result State LocalRefusal
domain_state d slot = pick (leb slot 3) (Ok (state_in (stream_at d slot))) (Err OutOfRange)

-- ---- windows

-- 19 where a window with the write right shares a byte with another that is live, or with a waiting buffer, of the domain
unfoldable pub domain_registered : Domain → ℕ → ℕ → ℕ → ℕ → ℕ → ℕ → (Result ⊤ LocalRefusal × Domain)
domain_registered d slot key base len place rights =
    lastly (both (writes rights) (domain_shares d place len)) d
    ((registered d.windows d.part slot key base len place rights).0, with_windows d (registered d.windows d.part slot key base len place rights).1)

unfoldable pub domain_dropped : Domain → ℕ → (Result ⊤ LocalRefusal × Domain)
domain_dropped d slot = ((dropped d.windows slot).0, with_windows d (dropped d.windows slot).1)

-- ---- the meter

abbrev pub with_meter : Domain → Meter → Domain
with_meter d m = record { part = d.part; windows = d.windows; streams = d.streams; meter = m }

-- "bytes placed": the payload bytes of a Write and of a Send
abbrev pub segment_count : Result SegmentRead Refusal → ℕ
segment_count (Ok (SegmentWait n)) = 0
segment_count (Err r) = 0
segment_count (Ok (TaggedSegment total h start len)) = len
segment_count (Ok (UntaggedSegment total h start len)) = pick (eqb h.qn 0) len 0

-- the meter, by what is answered to a segment with so many: those of a taken one are counted
abbrev pub meter_by : Result Answer LocalRefusal → ℕ → Meter → Meter
meter_by (Ok (Wait n)) placed m = m
meter_by (Ok (Taken total e)) placed m = counted_meter m placed
meter_by (Ok (Ended r)) placed m = m
meter_by (Err k) placed m = m

abbrev pub metered : Result Answer LocalRefusal → Result SegmentRead Refusal → Domain → Domain
metered a x d = with_meter d (meter_by a (segment_count x) d.meter)

abbrev pub metered_of : Result SegmentRead Refusal → (Result Answer LocalRefusal × Domain) → (Result Answer LocalRefusal × Domain)
metered_of x r = (r.0, metered r.0 x r.1)

-- "the tick makes that domain's count the sample and clears it"
abbrev pub domain_ticked : Domain → Domain
domain_ticked d = with_meter d (ticked_meter d.meter)

abbrev pub domain_reading : Domain → Reading
domain_reading d = reading_of d.meter.gauge d.meter.ticked

-- ---- receive

-- what receive over the parts of a domain makes of it
abbrev pub lifted : Domain → ℕ → PartsReceived → (Result Answer LocalRefusal × Domain)
lifted d slot r = (r.answer, record { part = d.part; windows = killed r.invalidate d.windows; streams = set d.streams slot r.stream; meter = d.meter })

-- receive on the stream of a slot of domain number: the answer and the domain. It is that of `arrival`'s specs/Parts.antt, lifted: the stream
-- of the slot is exchanged, and the window that a Send invalidated is dead; and what was placed is counted.
unfoldable pub domain_received : Domain → ℕ → ℕ → List ℕ → (Result Answer LocalRefusal × Domain)
domain_received d number slot input =
    pick (leb slot 3)
    (metered_of (segment_read (stream_at d slot).framing.crc input) (lifted d slot (parts_received d.windows number (stream_at d slot) input)))
    (Err OutOfRange, d)

-- and the domain's bytes of the store
unfoldable pub domain_received_bytes : Domain → ℕ → ℕ → List ℕ → List ℕ → List ℕ
domain_received_bytes d number slot input bytes =
    pick (leb slot 3) (parts_received_bytes d.part d.windows number (stream_at d slot) input bytes) bytes
