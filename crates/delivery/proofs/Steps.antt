-- A list of FPDUs received, one after the other: the first, and then the others in the domain that it left.
use Prim.Native.Nat.{ℕ, ◌<◌}
use mathlib.Core.Path.{◌≡◌, ap, ap₂, ◌∙◌}
use mathlib.Core.Bool.{Bool}
use mathlib.Core.List.{List, ◌∷◌}
use native.Mathlib.Omega.{arith}
use lib.ListN.{length}
use lib.Seq.{get_or-set_same, set-set, set-get_or}
use borrow.Author.Tests.{le-leb}
use Rattle.wire.specs.Wire.{pick}
use Rattle.ddp.specs.Segment.{segment_read}
use Rattle.ddp.specs.declared.segment.SegmentRead.{SegmentRead}
use Rattle.rdmap.specs.declared.stream.Stream.{Stream}
use Rattle.rdmap.specs.Stream.{no_stream}
use Rattle.domain.specs.Domain.{stream_at, with_stream, metered, metered_of, domain_received, domain_received_bytes, lifted}
use Rattle.arrival.specs.Parts.{parts_received, parts_received_bytes, killed}
use Rattle.arrival.specs.declared.Answer.{Answer}
use Rattle.domain.specs.declared.Domain.{Domain}
use Rattle.arrival.specs.declared.parts.PartsReceived.{PartsReceived}
use Rattle.delivery.specs.Delivery.{Outcome, answering, received_all}
use Rattle.std.specs.Prelude.{Err, Result}
use Rattle.ddp.specs.declared.refusal.Refusal.{Refusal}
use Rattle.wire.specs.declared.refusal.LocalRefusal.{LocalRefusal}
use Rattle.wire.specs.declared.refusal.LocalRefusal.TheVariants.{OutOfRange}

pub outcome_path : {a b : List (Result Answer LocalRefusal)} {x y : Domain} {p q : List ℕ} → a ≡ b → x ≡ y → p ≡ q → ◌≡◌ {A = Outcome} (record { answers = a; domain = x; bytes = p }) (record { answers = b; domain = y; bytes = q })
outcome_path u v w i = record { answers = u i; domain = v i; bytes = w i }

-- the domain with its own stream
pub own-stream : (d : Domain) (slot : ℕ) → with_stream d slot (stream_at d slot) ≡ d
own-stream d slot i = record { part = d.part; windows = d.windows; streams = set-get_or d.streams slot no_stream i; meter = d.meter }

module _ (d : Domain) (number slot : ℕ) (h : slot < 4) (four : length d.streams ≡ 4) (s : Stream) where
  there : stream_at (with_stream d slot s) slot ≡ s
  there = get_or-set_same d.streams slot s no_stream (omega arith)

  again : (r : PartsReceived) → lifted (with_stream d slot s) slot r ≡ lifted d slot r
  again r i = (r.answer, record { part = d.part; windows = killed r.invalidate d.windows; streams = set-set d.streams slot s r.stream i; meter = d.meter })

  -- one FPDU, where the slot has the stream s
  module _ (input : List ℕ) where
    received-one : domain_received (with_stream d slot s) number slot input ≡ metered_of (segment_read s.framing.crc input) (lifted d slot (parts_received d.windows number s input))
    unfolding domain_received
    received-one =
        let e : Domain = with_stream d slot s in
        ap (λ (t : Bool). pick t (metered_of (segment_read (stream_at e slot).framing.crc input) (lifted e slot (parts_received d.windows number (stream_at e slot) input))) (Err OutOfRange, e)) (le-leb slot 3 (omega arith))
        ∙ ap (λ (x : Stream). metered_of (segment_read x.framing.crc input) (lifted e slot (parts_received d.windows number x input))) there
        ∙ ap (metered_of (segment_read s.framing.crc input)) (again (parts_received d.windows number s input))

    bytes_one : (bytes : List ℕ) → domain_received_bytes (with_stream d slot s) number slot input bytes ≡ parts_received_bytes d.part d.windows number s input bytes
    unfolding domain_received_bytes
    bytes_one bytes =
        ap (λ (t : Bool). pick t (parts_received_bytes d.part d.windows number (stream_at (with_stream d slot s) slot) input bytes) bytes) (le-leb slot 3 (omega arith))
        ∙ ap (λ (x : Stream). parts_received_bytes d.part d.windows number x input bytes) there

    -- and the others after it
    pub received-next :
        (bytes after : List ℕ) (x : Result SegmentRead Refusal) (r : PartsReceived) (rest : List (List ℕ)) →
        segment_read s.framing.crc input ≡ x → parts_received d.windows number s input ≡ r → parts_received_bytes d.part d.windows number s input bytes ≡ after →
        received_all (with_stream d slot s) number slot bytes (input ∷ rest) ≡ answering r.answer (received_all (metered r.answer x (lifted d slot r).1) number slot after rest)
    unfolding received_all
    received-next bytes after x r rest q e b =
        ap₂ (λ (y : Result Answer LocalRefusal × Domain) (l : List ℕ). answering y.0 (received_all y.1 number slot l rest))
        (received-one ∙ ap₂ (λ (y : Result SegmentRead Refusal) (p : PartsReceived). metered_of y (lifted d slot p)) q e) (bytes_one bytes ∙ b)
