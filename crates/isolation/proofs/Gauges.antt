-- A domain's meter over the calls of its book: it stays well-formed. A tick samples it, a receive or an offer counts, and no other call
-- touches it.
use Prim.Native.Nat.{ℕ, ◌%◌}
use mathlib.Core.Bool.{Bool}
use mathlib.Core.List.{List, ◌++◌}
use lib.Dec.{leb, eqb}
use Rattle.wire.specs.Wire.{both}
use Rattle.meter.specs.Invariant.{MeterWellFormed}
use Rattle.meter.specs.declared.Meter.{Meter}
use Rattle.meter.proofs.Invariant.{tick_well_formed, counted-fits}
use Rattle.ddp.specs.Segment.{segment_read}
use Rattle.domain.specs.Domain.{stream_at, domain_opened, domain_closed, domain_posted, domain_taken, domain_registered, domain_dropped, meter_by, segment_count, metered_of, domain_received, lifted}
use Rattle.arrival.specs.Parts.{parts_received}
use Rattle.overlap.specs.Sharing.{writes}
use Rattle.domain.specs.Sharing.{domain_shares}
use Rattle.arrival.specs.declared.Answer.{Answer as ReceiveAnswer}
use Rattle.arrival.specs.declared.Answer.TheVariants.{Wait, Taken, Ended}
use Rattle.domain.specs.declared.Domain.{Domain}
use Rattle.holding.specs.Offer.{holds_at, domain_receives, parts_offered, domain_offered}
use Rattle.rnic.specs.Offer.{rooms_bytes}
use Rattle.isolation.specs.Book.{Call, Answer, View, Observation, book_receive, book_offer, book}
use Rattle.isolation.specs.Book.Call.{open_stream, close_stream, register, drop_window, post, receive, offer, take_read, live, free, tick, read_gauge, ask_state}
use Rattle.isolation.proofs.Kept.{picked, lastly-holds}
use Rattle.std.specs.Prelude.{Err, Ok, Result}
use Rattle.wire.specs.declared.refusal.LocalRefusal.{LocalRefusal}
use Rattle.std.specs.Prelude.{⊤}
use Rattle.rdmap.specs.declared.stream.Left.{Left}
use Rattle.rdmap.specs.declared.read.ReadRequest.{ReadRequest}

abbrev Metered : Domain → Type 0
Metered d = MeterWellFormed d.meter

by-metered : (a : Result ReceiveAnswer LocalRefusal) (n : ℕ) (m : Meter) → MeterWellFormed m → MeterWellFormed (meter_by a n m)
by-metered (Ok (Wait k)) n m w = w
by-metered (Ok (Taken total e)) n m w = record { counts = counted-fits m.count n; gauge = w.gauge }
by-metered (Ok (Ended r)) n m w = w
by-metered (Err k) n m w = w

module _ (d : Domain) (w : Metered d) where
  opened-metered : (slot : ℕ) (crc : Bool) → Metered (domain_opened d slot crc).1
  unfolding domain_opened
  opened-metered slot crc = picked (λ (r : Result ⊤ LocalRefusal × Domain). Metered r.1) (leb slot 3) _ _ (λ e. w) (λ e. w)

  closed-metered : (slot : ℕ) → Metered (domain_closed d slot).1
  unfolding domain_closed
  closed-metered slot = picked (λ (r : Result Left LocalRefusal × Domain). Metered r.1) (leb slot 3) _ _ (λ e. w) (λ e. w)

  posted-metered : (slot start len : ℕ) → Metered (domain_posted d slot start len).1
  unfolding domain_posted
  posted-metered slot start len =
      picked (λ (r : Result ⊤ LocalRefusal × Domain). Metered r.1) (leb slot 3) _ _ (λ e. lastly-holds Metered (domain_shares d start len) d _ w (λ q f. w) (λ n q. w)) (λ e. w)

  taken-metered : (slot : ℕ) → Metered (domain_taken d slot).1
  unfolding domain_taken
  taken-metered slot = picked (λ (r : Result ReadRequest LocalRefusal × Domain). Metered r.1) (leb slot 3) _ _ (λ e. w) (λ e. w)

  registered-metered : (slot key base len place rights : ℕ) → Metered (domain_registered d slot key base len place rights).1
  unfolding domain_registered
  registered-metered slot key base len place rights = lastly-holds Metered (both (writes rights) (domain_shares d place len)) d _ w (λ q f. w) (λ n q. w)

  dropped-metered : (slot : ℕ) → Metered (domain_dropped d slot).1
  unfolding domain_dropped
  dropped-metered slot = w

  received-metered : (number slot : ℕ) (input : List ℕ) → Metered (domain_receives d number slot input).1
  unfolding domain_receives domain_received
  received-metered number slot input =
      let r = parts_received d.windows number (stream_at d slot) input in
      let seg = segment_read (stream_at d slot).framing.crc input in
      picked (λ (x : Result ReceiveAnswer LocalRefusal × Domain). Metered x.1) (holds_at d slot) _ _ (λ e. w)
      (λ q. picked (λ (x : Result ReceiveAnswer LocalRefusal × Domain). Metered x.1) (leb slot 3) (metered_of seg (lifted d slot r)) _ (λ e. by-metered r.answer (segment_count seg) d.meter w) (λ e. w))

  offered-metered : (number slot : ℕ) (held input : List ℕ) → Metered (domain_offered d number slot held input).1
  unfolding domain_offered
  offered-metered number slot held input =
      let r = parts_offered d.windows number (stream_at d slot) held input in
      let seg = segment_read (stream_at d slot).framing.crc (held ++ input) in
      picked (λ (x : Result ReceiveAnswer LocalRefusal × Domain). Metered x.1) (leb slot 3) (metered_of seg (lifted d slot r)) _ (λ e. by-metered r.answer (segment_count seg) d.meter w) (λ e. w)

-- ---- the book
pub book-metered : (A : ℕ) (v : View) → MeterWellFormed v.dom.meter → (c : Call) → MeterWellFormed (book A v c).after.dom.meter
book-metered A v w (open_stream n crc) = opened-metered v.dom w (n % 4) crc
book-metered A v w (close_stream n) = closed-metered v.dom w (n % 4)
book-metered A v w (register i key base len place rights) = registered-metered v.dom w (i % 16) key base len place rights
book-metered A v w (drop_window i) = dropped-metered v.dom w (i % 16)
book-metered A v w (post n start len) = posted-metered v.dom w (n % 4) start len
book-metered A v w (receive n input size) =
    picked (λ (o : Observation Answer). Metered o.after.dom) (eqb size v.size) (book_receive A v n input) _ (λ e. received-metered v.dom w A (n % 4) input) (λ e. w)
book-metered A v w (offer n input size many) =
    picked (λ (o : Observation Answer). Metered o.after.dom) (both (eqb size v.size) (eqb many rooms_bytes)) (book_offer A v n input) _
    (λ e. offered-metered v.dom w A (n % 4) (v.held (n % 4)) input) (λ e. w)
book-metered A v w (take_read n) = taken-metered v.dom w (n % 4)
book-metered A v w (live d) = w
book-metered A v w (free d) = w
book-metered A v w (tick d) = tick_well_formed v.dom.meter w
book-metered A v w (read_gauge d) = w
book-metered A v w (ask_state n) = w
