-- What a domain's receive keeps: where its part lies, and how many bytes it has. By cases on the tests of each definition.
use Prim.Native.Nat.{ℕ, ◌-◌, ◌+◌, ◌<◌}
use mathlib.Core.Path.{◌≡◌, refl, ap, ◌∙◌}
use mathlib.Core.Bool.{Bool, true, false}
use mathlib.Core.List.{List}
use native.Mathlib.Omega.{arith}
use native.Mathlib.Decide.{dec_lt}
use lib.ListN.{length, get_or, set}
use lib.Seq.{get_or-set_same, set_out}
use lib.Dec.{leb}
use borrow.Author.Tests.{leb-true}
use Rattle.wire.specs.Wire.{pick, part}
use Rattle.wire.proofs.Laws.{length-put}
use Rattle.ddp.specs.Place.{fits, placed}
use Rattle.ddp.specs.Segment.{segment_read}
use Rattle.memory.specs.declared.part.Part.{Part}
use Rattle.ddp.specs.declared.segment.SegmentRead.{SegmentRead}
use Rattle.ddp.specs.declared.segment.SegmentRead.TheVariants.{Wait, Tagged, Untagged}
use Rattle.memory.specs.declared.window.Window.{Window}
use Rattle.rdmap.specs.Phase.{readiness}
use Rattle.rdmap.specs.declared.message.Verdict.{Verdict}
use Rattle.rdmap.specs.declared.message.Verdict.TheVariants.{Nothing, Write, SendMore, SendLast, Read, Terminate}
use Rattle.rdmap.specs.declared.framing.Framing.{Framing}
use Rattle.rdmap.specs.declared.stream.Stream.{Stream}
use Rattle.rdmap.specs.Stream.{no_stream}
use Rattle.domain.specs.Domain.{stream_at, metered_of, domain_received, domain_received_bytes, lifted}
use Rattle.arrival.specs.Parts.{applied_bytes, placed_from, parts_verdict, parts_placed, parts_bytes_when, parts_received, parts_received_bytes}
use Rattle.domain.specs.declared.Domain.{Domain}
use Rattle.holding.proofs.Machine.{received-framing}
use Rattle.std.specs.Prelude.{Err, Ok, Result, ⊤}
use Rattle.ddp.specs.declared.refusal.Refusal.{Refusal}
use Rattle.wire.specs.declared.refusal.LocalRefusal.{LocalRefusal}
use Rattle.wire.specs.declared.refusal.LocalRefusal.TheVariants.{OutOfRange}
use Rattle.arrival.specs.declared.Answer.{Answer}

pub received_keeps : (d : Domain) (number slot : ℕ) (input : List ℕ) → (domain_received d number slot input).1.part ≡ d.part
unfolding domain_received
received_keeps d number slot input = go (leb slot 3) (metered_of (segment_read (stream_at d slot).framing.crc input) (lifted d slot (parts_received d.windows number (stream_at d slot) input))) (Err OutOfRange, d) refl refl
  where
    go : (t : Bool) (x y : Result Answer LocalRefusal × Domain) → x.1.part ≡ d.part → y.1.part ≡ d.part → (pick t x y).1.part ≡ d.part
    go true x y p q = p
    go false x y p q = q

-- ---- a stream that holds nothing still does
pub received-holds : (d : Domain) (number slot : ℕ) (input : List ℕ) → (stream_at d slot).framing.held ≡ 0 → (stream_at (domain_received d number slot input).1 slot).framing.held ≡ 0
unfolding domain_received
received-holds d number slot input e = go (leb slot 3)
  where
    own : Stream
    own = stream_at d slot

    after : Stream
    after = (parts_received d.windows number (stream_at d slot) input).stream

    there : Dec (slot < length d.streams) → (get_or (set d.streams slot after) slot no_stream).framing.held ≡ 0
    there (yes l) =
        ap (λ (s : Stream). s.framing.held) (get_or-set_same d.streams slot after no_stream l)
        ∙ ap (λ (f : Framing). f.held) (received-framing d.windows number (stream_at d slot) input)
        ∙ e
    there (no l) = ap (λ (x : List Stream). (get_or x slot no_stream).framing.held) (set_out d.streams slot after (omega (arith, l))) ∙ e

    go : (t : Bool) → (stream_at (pick t (metered_of (segment_read (stream_at d slot).framing.crc input) (lifted d slot (parts_received d.windows number (stream_at d slot) input))) (Err OutOfRange, d)).1 slot).framing.held ≡ 0
    go true = there (dec_lt slot (length d.streams))
    go false = e

-- ---- as many bytes
length-pick : (t : Bool) (x y l : List ℕ) → (t ≡ true → length x ≡ length l) → length y ≡ length l → length (pick t x y) ≡ length l
length-pick true x y l p q = p refl
length-pick false x y l p q = q

placed_many : (l : List ℕ) (at : ℕ) (xs : List ℕ) → length (placed l at xs) ≡ length l
unfolding placed fits
placed_many l at xs = length-pick (leb (at + length xs) (length l)) _ l l (λ e. length-put l at xs (leb-true (at + length xs) (length l) e)) refl

from_many : (start at : ℕ) (xs l : List ℕ) → length (placed_from start at xs l) ≡ length l
unfolding placed_from
from_many start at xs l = length-pick (leb start at) (placed l (at - start) xs) l l (λ e. placed_many l (at - start) xs) refl

applied_many : (start : ℕ) (v : Result Verdict Refusal) (xs l : List ℕ) → length (applied_bytes start v xs l) ≡ length l
unfolding applied_bytes
applied_many start (Err r) xs l = refl
applied_many start (Ok Nothing) xs l = refl
applied_many start (Ok (Write at)) xs l = from_many start at xs l
applied_many start (Ok (SendMore at opcode taken)) xs l = from_many start at xs l
applied_many start (Ok (SendLast at opcode from len inv)) xs l = from_many start at xs l
applied_many start (Ok (Read r)) xs l = refl
applied_many start (Ok (Terminate layer etype code)) xs l = refl

module _ (p : Part) (ws : List Window) (number : ℕ) (s : Stream) (input l : List ℕ) where
  segment_many : (x : Result SegmentRead Refusal) → length (parts_placed p ws number s input l x) ≡ length l
  segment_many (Ok (Wait n)) = refl
  segment_many (Err r) = refl
  segment_many (Ok (Tagged total h start len)) = applied_many p.start (parts_verdict ws number s input (Ok (Tagged total h start len))) (part input start len) l
  segment_many (Ok (Untagged total h start len)) = applied_many p.start (parts_verdict ws number s input (Ok (Untagged total h start len))) (part input start len) l

  when_many : (r : Result ⊤ LocalRefusal) → length (parts_bytes_when p ws number s input l r) ≡ length l
  when_many (Ok tt) = segment_many (segment_read s.framing.crc input)
  when_many (Err k) = refl

  parts_many : length (parts_received_bytes p ws number s input l) ≡ length l
  unfolding parts_received_bytes
  parts_many = when_many (readiness s.phase)

pub received_many : (d : Domain) (number slot : ℕ) (input l : List ℕ) → length (domain_received_bytes d number slot input l) ≡ length l
unfolding domain_received_bytes
received_many d number slot input l =
    length-pick (leb slot 3) (parts_received_bytes d.part d.windows number (stream_at d slot) input l) l l (λ e. parts_many d.part d.windows number (stream_at d slot) input l) refl
