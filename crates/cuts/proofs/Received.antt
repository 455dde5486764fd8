-- A domain's receive on one of its streams keeps to the laws of `Machine`: a stream that is not open refuses whatever comes; one that is open
-- makes of the bytes what their kind says, and of a whole FPDU what its own bytes say.
use Prim.Native.Nat.{ℕ, ◌+◌, ◌-◌, ◌≤◌, ◌<◌}
use mathlib.Core.Path.{◌≡◌, refl, sym, ap, ap₂, subst, ◌∙◌}
use mathlib.Core.Bool.{Bool, true, false, not}
use mathlib.Core.List.{List, [], ◌++◌}
use native.Mathlib.Nat.{lt_of_lt_of_le}
use native.Mathlib.Omega.{arith}
use lib.ListN.{length, get_or, set, take, length-append, get_or-eq_default}
use lib.Seq.{take_at, take-append-le, get_or-set_same, set-get_or}
use lib.Dec.{leb}
use borrow.Author.Tests.{leb-true, leb-false, le-leb, lt-leb}
use Rattle.wire.specs.Wire.{pick, both, part, be16_at}
use Rattle.wire.specs.Refusal.{refusal_number}
use Rattle.wire.proofs.Laws.{be16_at-take}
use Rattle.mpa.specs.Fpdu.{max_ulpdu, total_of, crc_right}
use Rattle.mpa.proofs.Length.{total-two, total_limit}
use Rattle.mpa.specs.declared.FpduRead.TheVariants.{Taken as FpduTaken}
use Rattle.memory.specs.Window.{window_at, slot_named}
use Rattle.memory.specs.declared.part.Part.{Part}
use Rattle.memory.specs.declared.window.Window.{Window}
use Rattle.ddp.specs.Refusal.{ulpdu_too_long}
use Rattle.ddp.specs.Header.{header_read}
use Rattle.ddp.specs.Segment.{segment_of, segment_from, segment_read}
use Rattle.ddp.specs.Untagged.{untagged_of}
use Rattle.ddp.specs.declared.header.UntaggedHeader.{UntaggedHeader}
use Rattle.ddp.specs.declared.segment.SegmentRead.{SegmentRead}
use Rattle.ddp.specs.declared.segment.SegmentRead.TheVariants.{Wait as SegmentWait, Tagged as TaggedSegment, Untagged as UntaggedSegment}
use Rattle.rdmap.specs.Message.{stag_named, queue_of, untagged_verdict}
use Rattle.rdmap.specs.Phase.{phase_of, ended_phase, readiness}
use Rattle.rdmap.specs.Sends.{current_buffer}
use Rattle.rdmap.specs.declared.message.Verdict.{Verdict}
use Rattle.rdmap.specs.declared.message.Verdict.TheVariants.{Nothing, Write, SendMore, SendLast, Read, Terminate}
use Rattle.rdmap.specs.declared.phase.Phase.{Phase}
use Rattle.rdmap.specs.declared.stream.Stream.{Stream}
use Rattle.meter.specs.Gauge.{counted_meter}
use Rattle.meter.specs.declared.Meter.{Meter}
use Rattle.rdmap.specs.Stream.{no_stream}
use Rattle.domain.specs.Domain.{stream_at, with_meter, segment_count, metered, metered_of, domain_received, domain_received_bytes, lifted}
use Rattle.arrival.specs.Parts.{parts_applied, applied_bytes, parts_verdict, parts_judged, parts_placed, parts_answered, parts_when, parts_bytes_when, parts_received, parts_received_bytes, killed}
use Rattle.domain.specs.declared.Domain.{Domain}
use Rattle.arrival.specs.declared.Event.TheVariants.{Sent, SentInvalidating, Terminated}
use Rattle.arrival.specs.declared.Answer.{Answer}
use Rattle.arrival.specs.declared.Answer.TheVariants.{Wait, Taken, Ended}
use Rattle.arrival.specs.declared.parts.PartsReceived.{PartsReceived}
use Rattle.arrival.proofs.Inside.{segment_inside}
use Rattle.arrival.proofs.Inside.{ends as end_of}
use Rattle.cuts.specs.Cuts.{Step, Holds, Machine}
use Rattle.cuts.specs.Cuts.Step.{waits, took, ends, refuses}
use Rattle.cuts.specs.Received.{Side, Report, side_after, step_of, received, Short}
use Rattle.cuts.specs.Received.Report.{event, refusal}
use Rattle.cuts.proofs.Read.{size_of, Long, Begun, Whole, Kind, kind_of, few_read, long_read, begun_read, whole_read, part-take, own-long, own-size, own_read}
use Rattle.cuts.proofs.Read.Kind.{few, long, begun, whole}
use Rattle.std.specs.Prelude.{Err, None, Ok, Option, Result, Some, ⊤}
use Rattle.ddp.specs.declared.header.Header.{Header}
use Rattle.ddp.specs.declared.header.Header.TheVariants.{Tagged, Untagged}
use Rattle.ddp.specs.declared.refusal.Refusal.{Refusal}
use Rattle.mpa.specs.declared.FpduFault.TheVariants.{CrcError}
use Rattle.wire.specs.declared.refusal.LocalRefusal.{LocalRefusal}
use Rattle.wire.specs.declared.refusal.LocalRefusal.TheVariants.{NotOpen, OutOfRange, StreamEnded}

-- ---- what a judged FPDU makes of the stream

-- a refusal ends it and a Terminate ends it; where it waits or refuses it is as it was
abbrev pub Fair : Stream → Stream → Option (ℕ × ℕ) → Result Answer LocalRefusal → Type 0
Fair s t inv (Ok (Wait n)) = (t ≡ s) × (inv ≡ None)
Fair s t inv (Ok (Taken total None)) = Unit {0}
Fair s t inv (Ok (Taken total (Some (Sent start len opcode)))) = Unit {0}
Fair s t inv (Ok (Taken total (Some (SentInvalidating start len opcode stag)))) = Unit {0}
Fair s t inv (Ok (Taken total (Some (Terminated layer etype code)))) = t.phase ≡ phase_of 3
Fair s t inv (Ok (Ended r)) = t.phase ≡ ended_phase r
Fair s t inv (Err k) = (t ≡ s) × (inv ≡ None)

abbrev FairOf : Stream → PartsReceived → Type 0
FairOf s r = Fair s r.stream r.invalidate r.answer

-- it is taken with this total, or ends the stream
abbrev pub Judges : ℕ → Result Answer LocalRefusal → Type 0
Judges total (Ok (Wait n)) = ⊥
Judges total (Ok (Taken m e)) = m ≡ total
Judges total (Ok (Ended r)) = Unit {0}
Judges total (Err k) = ⊥

applied_fair : (s : Stream) (total : ℕ) (v : Result Verdict Refusal) → FairOf s (parts_applied s total v)
unfolding parts_applied
applied_fair s total (Err r) = refl
applied_fair s total (Ok Nothing) = tt
applied_fair s total (Ok (Write at)) = tt
applied_fair s total (Ok (SendMore at opcode taken)) = tt
applied_fair s total (Ok (SendLast at opcode start len None)) = tt
applied_fair s total (Ok (SendLast at opcode start len (Some (slot, stag)))) = tt
applied_fair s total (Ok (Read r)) = tt
applied_fair s total (Ok (Terminate layer etype code)) = refl

applied_judges : (s : Stream) (total : ℕ) (v : Result Verdict Refusal) → Judges total (parts_applied s total v).answer
unfolding parts_applied
applied_judges s total (Err r) = tt
applied_judges s total (Ok Nothing) = refl
applied_judges s total (Ok (Write at)) = refl
applied_judges s total (Ok (SendMore at opcode taken)) = refl
applied_judges s total (Ok (SendLast at opcode start len inv)) = refl
applied_judges s total (Ok (Read r)) = refl
applied_judges s total (Ok (Terminate layer etype code)) = refl

-- and of the domain's bytes: no more than a taken FPDU changes any
abbrev Keeps : Result Answer LocalRefusal → List ℕ → List ℕ → Type 0
Keeps (Ok (Wait n)) before now = now ≡ before
Keeps (Ok (Taken total e)) before now = Unit {0}
Keeps (Ok (Ended r)) before now = now ≡ before
Keeps (Err k) before now = now ≡ before

applied_keeps : (s : Stream) (total start : ℕ) (v : Result Verdict Refusal) (payload bytes : List ℕ) → Keeps (parts_applied s total v).answer bytes (applied_bytes start v payload bytes)
unfolding parts_applied applied_bytes
applied_keeps s total start (Err r) payload bytes = refl
applied_keeps s total start (Ok Nothing) payload bytes = tt
applied_keeps s total start (Ok (Write at)) payload bytes = tt
applied_keeps s total start (Ok (SendMore at opcode taken)) payload bytes = tt
applied_keeps s total start (Ok (SendLast at opcode from len inv)) payload bytes = tt
applied_keeps s total start (Ok (Read r)) payload bytes = tt
applied_keeps s total start (Ok (Terminate layer etype code)) payload bytes = tt

received_keeps : (p : Part) (ws : List Window) (number : ℕ) (s : Stream) (input bytes : List ℕ) → Keeps (parts_received ws number s input).answer bytes (parts_received_bytes p ws number s input bytes)
unfolding parts_received parts_received_bytes parts_applied applied_bytes
received_keeps p ws number s input bytes = when (readiness s.phase)
  where
    read : (x : Result SegmentRead Refusal) → Keeps (parts_answered s (parts_judged ws number s input x)).answer bytes (parts_placed p ws number s input bytes x)
    read (Ok (SegmentWait n)) = refl
    read (Err r) = refl
    read (Ok (TaggedSegment total h start len)) = applied_keeps s total p.start (parts_verdict ws number s input (Ok (TaggedSegment total h start len))) (part input start len) bytes
    read (Ok (UntaggedSegment total h start len)) = applied_keeps s total p.start (parts_verdict ws number s input (Ok (UntaggedSegment total h start len))) (part input start len) bytes

    when : (x : Result ⊤ LocalRefusal) → Keeps (parts_when ws number s input x).answer bytes (parts_bytes_when p ws number s input bytes x)
    when (Ok tt) = read (segment_read s.framing.crc input)
    when (Err k) = refl

-- what an open stream makes of a segment that was read
module _ (ws : List Window) (number : ℕ) (s : Stream) (input : List ℕ) where
  answered_fair : (x : Result SegmentRead Refusal) → FairOf s (parts_answered s (parts_judged ws number s input x))
  answered_fair (Ok (SegmentWait n)) = (refl, refl)
  answered_fair (Err r) = applied_fair s 0 (Err r)
  answered_fair (Ok (TaggedSegment total h start len)) = applied_fair s total (parts_verdict ws number s input (Ok (TaggedSegment total h start len)))
  answered_fair (Ok (UntaggedSegment total h start len)) = applied_fair s total (parts_verdict ws number s input (Ok (UntaggedSegment total h start len)))

  received_fair : FairOf s (parts_received ws number s input)
  unfolding parts_received
  received_fair = go (readiness s.phase)
    where
      go : (x : Result ⊤ LocalRefusal) → FairOf s (parts_when ws number s input x)
      go (Ok tt) = answered_fair (segment_read s.framing.crc input)
      go (Err k) = (refl, refl)

  -- of a whole FPDU
  headed_judges : (total start len : ℕ) (x : Result Header Refusal) → Judges total (parts_answered s (parts_judged ws number s input (segment_of total start len x))).answer
  unfolding parts_applied
  headed_judges total start len (Ok (Tagged h)) = applied_judges s total (parts_verdict ws number s input (Ok (TaggedSegment total h (start + 14) (len - 14))))
  headed_judges total start len (Ok (Untagged h)) = applied_judges s total (parts_verdict ws number s input (Ok (UntaggedSegment total h (start + 18) (len - 18))))
  headed_judges total start len (Err r) = tt

  pub whole_judges : Whole input → (crc : Bool) → Judges (size_of input) (parts_answered s (parts_judged ws number s input (segment_read crc input))).answer
  unfolding segment_read parts_applied
  whole_judges k crc =
      subst (λ (x : Result SegmentRead Refusal). Judges (size_of input) (parts_answered s (parts_judged ws number s input x)).answer) (ap (segment_from input) (sym (whole_read crc input k)))
      (go (both crc (not (crc_right input (be16_at input 0)))))
    where
      go : (b : Bool) → Judges (size_of input) (parts_answered s (parts_judged ws number s input (segment_from input (pick b (Err CrcError) (Ok (FpduTaken (size_of input) 2 (be16_at input 0))))))).answer
      go true = tt
      go false = headed_judges (size_of input) 2 (be16_at input 0) (header_read (part input 2 (be16_at input 0)))

-- the payload alone matters of the input, once the segment is read
module _ (p : Part) (ws : List Window) (number : ℕ) (s : Stream) (bytes : List ℕ) where
  pub record Same (a b : List ℕ) (x : Result SegmentRead Refusal) : Type 0 where
    pub answered : parts_answered s (parts_judged ws number s a x) ≡ parts_answered s (parts_judged ws number s b x)
    pub placed : parts_placed p ws number s a bytes x ≡ parts_placed p ws number s b bytes x

  abbrev verdict_of : UntaggedHeader → List ℕ → Result Verdict Refusal
  verdict_of h payload =
      untagged_verdict (window_at ws (slot_named (stag_named h payload))) number s.sends.opcode (current_buffer s.sends) h payload
      (untagged_of (queue_of s h.qn) h.qn h.msn h.mo (length payload))

  pub same_payload : (m : ℕ) (q : List ℕ) (x : Result SegmentRead Refusal) → m ≤ length q → end_of x ≤ m → Same (take m q) q x
  same_payload m q (Ok (SegmentWait n)) l h = record { answered = refl; placed = refl }
  same_payload m q (Err r) l h = record { answered = refl; placed = refl }
  same_payload m q (Ok (TaggedSegment total hd start len)) l h =
      record {
        answered = refl;
        placed = ap (λ (z : List ℕ). applied_bytes p.start (parts_verdict ws number s q (Ok (TaggedSegment total hd start len))) z bytes) (part-take m q start len h l);
      }
  same_payload m q (Ok (UntaggedSegment total hd start len)) l h =
      let e : part (take m q) start len ≡ part q start len = part-take m q start len h l in
      record {
        answered = ap (λ (z : List ℕ). parts_applied s total (verdict_of hd z)) e;
        placed = ap (λ (z : List ℕ). applied_bytes p.start (verdict_of hd z) z bytes) e;
      }

-- ---- of a domain

module _ (number slot : ℕ) where
  module _ (w : Side) where
    abbrev own : Stream
    own = stream_at w.domain slot

    abbrev crc_on : Bool
    crc_on = own.framing.crc

    -- by the segment, what it makes of the stream, and the bytes
    abbrev by_parts : Result SegmentRead Refusal → PartsReceived → List ℕ → Step Side Report
    by_parts x r bytes = step_of r.answer (record { domain = metered r.answer x (lifted w.domain slot r).1; bytes = bytes })

    no_slot : 3 < slot → (p : List ℕ) → received number slot w p ≡ refuses 1
    unfolding received domain_received refusal_number
    no_slot h p =
        ap (λ (b : Bool). step_of (pick b (metered_of (segment_read crc_on p) (lifted w.domain slot (parts_received w.domain.windows number own p))) (Err OutOfRange, w.domain)).0
        (record {
          domain = (pick b (metered_of (segment_read crc_on p) (lifted w.domain slot (parts_received w.domain.windows number own p))) (Err OutOfRange, w.domain)).1;
          bytes = domain_received_bytes w.domain number slot p w.bytes;
        })) (lt-leb slot 3 h)

    by_parts_lem :
        slot ≤ 3 → (p : List ℕ) →
        received number slot w p ≡ by_parts (segment_read crc_on p) (parts_received w.domain.windows number own p) (parts_received_bytes w.domain.part w.domain.windows number own p w.bytes)
    unfolding received domain_received domain_received_bytes
    by_parts_lem h p =
        ap (λ (b : Bool). step_of (pick b (metered_of (segment_read crc_on p) (lifted w.domain slot (parts_received w.domain.windows number own p))) (Err OutOfRange, w.domain)).0
        (record {
          domain = (pick b (metered_of (segment_read crc_on p) (lifted w.domain slot (parts_received w.domain.windows number own p))) (Err OutOfRange, w.domain)).1;
          bytes = pick b (parts_received_bytes w.domain.part w.domain.windows number own p w.bytes) w.bytes;
        })) (le-leb slot 3 h)

    not-ready : slot ≤ 3 → (k : LocalRefusal) → readiness own.phase ≡ Err k → (p : List ℕ) → received number slot w p ≡ refuses (refusal_number k)
    unfolding parts_received parts_received_bytes
    not-ready h k e p =
        by_parts_lem h p
        ∙ ap (λ (x : Result ⊤ LocalRefusal). by_parts (segment_read crc_on p) (parts_when w.domain.windows number own p x) (parts_bytes_when w.domain.part w.domain.windows number own p w.bytes x)) e

    -- an open stream
    pub record Opened : Type 0 where
      pub inside : slot ≤ 3
      pub ready : readiness own.phase ≡ (Ok tt)

    abbrev by_segment : List ℕ → Result SegmentRead Refusal → Step Side Report
    by_segment p x = by_parts x (parts_answered own (parts_judged w.domain.windows number own p x)) (parts_placed w.domain.part w.domain.windows number own p w.bytes x)

    open_step : Opened → (p : List ℕ) (x : Result SegmentRead Refusal) → segment_read crc_on p ≡ x → received number slot w p ≡ by_segment p x
    unfolding parts_received parts_received_bytes
    open_step o p x e =
        by_parts_lem o.inside p
        ∙ ap (λ (x : Result ⊤ LocalRefusal). by_parts (segment_read crc_on p) (parts_when w.domain.windows number own p x) (parts_bytes_when w.domain.part w.domain.windows number own p w.bytes x)) o.ready
        ∙ ap (by_segment p) e

    -- it is open, or refuses whatever comes
    pub data Standing : Type 0 where
      ready : Opened → Standing
      shut : (k : ℕ) → ((p : List ℕ) → received number slot w p ≡ refuses k) → Standing

    pub standing : Standing
    standing = go (leb slot 3) refl (readiness own.phase) refl
      where
        go : (b : Bool) → leb slot 3 ≡ b → (x : Result ⊤ LocalRefusal) → readiness own.phase ≡ x → Standing
        go false q x e = shut 1 (no_slot (leb-false slot 3 q))
        go true q (Ok tt) e = ready (record { inside = leb-true slot 3 q; ready = e })
        go true q (Err k) e = shut (refusal_number k) (not-ready (leb-true slot 3 q) k e)

    -- ---- what an open stream makes of each kind
    module _ (o : Opened) (p : List ℕ) where
      pub open_few : length p < 2 → received number slot w p ≡ waits
      open_few h = open_step o p (Ok (SegmentWait 2)) (few_read crc_on p h)

      pub open_begun : Begun p → received number slot w p ≡ waits
      open_begun k = open_step o p (Ok (SegmentWait (size_of p))) (begun_read crc_on p k)

      open_long : Long p → received number slot w p ≡ by_segment [] (Err ulpdu_too_long)
      open_long k = open_step o p (Err ulpdu_too_long) (long_read crc_on p k)

      -- the FPDU's own bytes alone matter
      open_own : Whole p → received number slot w (take (size_of p) p) ≡ received number slot w p
      open_own k =
          let x : (Result SegmentRead Refusal) = segment_read crc_on p in
          let q : List ℕ = take (size_of p) p in
          let inside : end_of x ≤ size_of p = subst (λ (z : Result SegmentRead Refusal). end_of z ≤ size_of p) (own_read p k crc_on) (omega (arith, segment_inside crc_on q, own-long p k)) in
          let same = same_payload w.domain.part w.domain.windows number own w.bytes (size_of p) p x k.all inside in
          open_step o q x (own_read p k crc_on)
          ∙ ap₂ (by_parts x) same.answered same.placed
          ∙ sym (open_step o p x refl)

      -- it is taken, with the FPDU's total, or ends the stream
      abbrev pub Decides : Step Side Report → Type 0
      Decides waits = ⊥
      Decides (took n e t) = n ≡ size_of p
      Decides (ends e t) = Unit {0}
      Decides (refuses k) = ⊥

      decides_of : (a : Result Answer LocalRefusal) (t : Side) → Judges (size_of p) a → Decides (step_of a t)
      decides_of (Ok (Wait n)) t j = absurd j
      decides_of (Ok (Taken n e)) t j = j
      decides_of (Ok (Ended r)) t j = tt
      decides_of (Err k) t j = absurd j

      open_whole : Whole p → Decides (received number slot w p)
      open_whole k =
          let r : PartsReceived = parts_answered own (parts_judged w.domain.windows number own p (segment_read crc_on p)) in
          let bytes : List ℕ = parts_placed w.domain.part w.domain.windows number own p w.bytes (segment_read crc_on p) in
          subst Decides (sym (open_step o p (segment_read crc_on p) refl))
          (decides_of r.answer (record { domain = metered r.answer (segment_read crc_on p) (lifted w.domain slot r).1; bytes = bytes }) (whole_judges w.domain.windows number own p k crc_on))

    -- ---- the domain afterwards

    -- an open stream is one of the domain's
    inside_streams : Opened → slot < length w.domain.streams
    inside_streams o = go (leb (length w.domain.streams) slot) refl
      where
        go : (b : Bool) → leb (length w.domain.streams) slot ≡ b → slot < length w.domain.streams
        go false q = leb-false _ _ q
        go true q =
            let none : own ≡ no_stream = get_or-eq_default w.domain.streams no_stream (leb-true (length w.domain.streams) slot q) in
            let closed : Err NotOpen ≡ (Ok tt) = ap (λ (s : Stream). readiness s.phase) (sym none) ∙ o.ready in
            absurd (let no : ◌≡◌ {A = ℕ} 0 1 = cc in omega arith)

  -- where it is left in a phase that is not open, every call is refused
  then-shut :
      (w : Side) → Opened w → (r : PartsReceived) (m : Meter) (bytes : List ℕ) (x : Phase) → r.stream.phase ≡ x → (k : LocalRefusal) → readiness x ≡ Err k → (q : List ℕ) →
      received number slot (record { domain = with_meter (lifted w.domain slot r).1 m; bytes = bytes }) q ≡ refuses (refusal_number k)
  then-shut w o r m bytes x e k u =
      let there : get_or (set w.domain.streams slot r.stream) slot no_stream ≡ r.stream = get_or-set_same w.domain.streams slot r.stream no_stream (inside_streams w o) in
      not-ready (record { domain = with_meter (lifted w.domain slot r).1 m; bytes = bytes }) o.inside k (ap (λ (s : Stream). readiness s.phase) there ∙ ap readiness e ∙ u)

  -- after a refusal of the peer's bytes and after a Terminate every call is refused with 5
  abbrev pub Left : Step Side Report → Type 0
  Left waits = Unit {0}
  Left (took n (event None) t) = Unit {0}
  Left (took n (event (Some (Sent start len opcode))) t) = Unit {0}
  Left (took n (event (Some (SentInvalidating start len opcode stag))) t) = Unit {0}
  Left (took n (event (Some (Terminated layer etype code))) t) = (q : List ℕ) → received number slot t q ≡ refuses 5
  Left (took n (refusal r) t) = ⊥
  Left (ends e t) = (q : List ℕ) → received number slot t q ≡ refuses 5
  Left (refuses k) = Unit {0}

  left_of_lem :
      (w : Side) → Opened w → (x : Result SegmentRead Refusal) (r : PartsReceived) (bytes : List ℕ) (a : Result Answer LocalRefusal) → Fair (stream_at w.domain slot) r.stream r.invalidate a →
      Left (step_of a (record { domain = metered a x (lifted w.domain slot r).1; bytes = bytes }))
  unfolding refusal_number
  left_of_lem w o x r bytes (Ok (Wait n)) f = tt
  left_of_lem w o x r bytes (Ok (Taken total None)) f = tt
  left_of_lem w o x r bytes (Ok (Taken total (Some (Sent start len opcode)))) f = tt
  left_of_lem w o x r bytes (Ok (Taken total (Some (SentInvalidating start len opcode stag)))) f = tt
  left_of_lem w o x r bytes (Ok (Taken total (Some (Terminated layer etype code)))) f = then-shut w o r (counted_meter w.domain.meter (segment_count x)) bytes (phase_of 3) f StreamEnded refl
  left_of_lem w o x r bytes (Ok (Ended y)) f = then-shut w o r w.domain.meter bytes (ended_phase y) f StreamEnded refl
  left_of_lem w o x r bytes (Err k) f = tt

  pub left : (w : Side) (p : List ℕ) → Left (received number slot w p)
  left w p = go (standing w)
    where
      go : Standing w → Left (received number slot w p)
      go (shut k s) = subst Left (sym (s p)) tt
      go (ready o) =
          let r : PartsReceived = parts_received w.domain.windows number (stream_at w.domain slot) p in
          subst Left (sym (by_parts_lem w o.inside p))
          (left_of_lem w o (segment_read (stream_at w.domain slot).framing.crc p) r (parts_received_bytes w.domain.part w.domain.windows number (stream_at w.domain slot) p w.bytes) r.answer (received_fair w.domain.windows number (stream_at w.domain slot) p))

  -- ---- the laws

  -- bytes that begin with a whole FPDU are received as those of another that do
  pub begins : (w : Side) → Opened w → (p q : List ℕ) → Whole p → take (size_of p) q ≡ take (size_of p) p → size_of p ≤ length q → received number slot w q ≡ received number slot w p
  begins w o p q k e l =
      let size : be16_at q 0 ≡ be16_at p 0 = sym (be16_at-take (size_of p) q 0 (omega arith)) ∙ ap (λ (z : List ℕ). be16_at z 0) e ∙ own-size p k in
      let whole-q : Whole q = record { low = rw size k.low; all = rw size l } in
      sym (open_own w o q whole-q)
      ∙ ap (λ (n : ℕ). received number slot w (take (total_of n) q)) size
      ∙ ap (received number slot w) e
      ∙ open_own w o p k

  -- what is taken is a whole FPDU
  pub record TakenWhole (w : Side) (p : List ℕ) (n : ℕ) : Type 0 where
    pub opened : Opened w
    pub full : Whole p
    pub size : n ≡ size_of p

  pub taken-whole : (w : Side) (p : List ℕ) (n : ℕ) (e : Report) (t : Side) → received number slot w p ≡ took n e t → TakenWhole w p n
  unfolding parts_applied
  taken-whole w p n e t r = go (standing w)
    where
      kinds : Opened w → Kind p → TakenWhole w p n
      kinds o (few h) = absurd (let a : waits ≡ took n e t = sym (open_few w o p h) ∙ r in let no : ◌≡◌ {A = ℕ} 0 1 = cc in omega arith)
      kinds o (begun k) = absurd (let a : waits ≡ took n e t = sym (open_begun w o p k) ∙ r in let no : ◌≡◌ {A = ℕ} 0 1 = cc in omega arith)
      kinds o (long k) = absurd (let a : ends (refusal ulpdu_too_long) _ ≡ took n e t = sym (open_long w o p k) ∙ r in let no : ◌≡◌ {A = ℕ} 0 1 = cc in omega arith)
      kinds o (whole k) = record { opened = o; full = k; size = subst (Decides w o p) r (open_whole w o p k) }

      go : Standing w → TakenWhole w p n
      go (shut k s) = absurd (let a : refuses k ≡ took n e t = sym (s p) ∙ r in let no : ◌≡◌ {A = ℕ} 0 1 = cc in omega arith)
      go (ready o) = kinds o (kind_of p)

  pub law_none : (w : Side) → Holds [] (received number slot w [])
  law_none w = go (standing w)
    where
      go : Standing w → Holds [] (received number slot w [])
      go (shut k s) = subst (Holds []) (sym (s [])) refl
      go (ready o) = subst (Holds []) (sym (open_few w o [] (omega arith))) tt

  pub law_some : (w : Side) (p : List ℕ) (n : ℕ) (e : Report) (t : Side) → received number slot w p ≡ took n e t → (1 ≤ n) × (n ≤ length p)
  law_some w p n e t r = let k = taken-whole w p n e t r in (omega (arith, k.size), omega (arith, k.size, k.full.all))

  pub law_own : (w : Side) (p : List ℕ) (n : ℕ) (e : Report) (t : Side) → received number slot w p ≡ took n e t → (q : List ℕ) → received number slot w (take n p ++ q) ≡ took n e t
  law_own w p n e t r q =
      let k = taken-whole w p n e t r in
      let m : ℕ = size_of p in
      ap (λ (i : ℕ). received number slot w (take i p ++ q)) k.size
      ∙ begins w k.opened p (take m p ++ q) k.full (take_at (take m p) q m (own-long p k.full)) (omega (arith, length-append (take m p) q, own-long p k.full))
      ∙ r

  long_more : (p q : List ℕ) → Long p → Long (p ++ q)
  long_more p q k =
      let same : be16_at (p ++ q) 0 ≡ be16_at p 0 = sym (be16_at-take 2 (p ++ q) 0 (omega arith)) ∙ ap (λ (z : List ℕ). be16_at z 0) (take-append-le 2 p q k.begun) ∙ be16_at-take 2 p 0 (omega arith) in
      record { begun = omega (arith, length-append p q, k.begun); high = rw same k.high }

  pub law_end : (w : Side) (p : List ℕ) (e : Report) (t : Side) → received number slot w p ≡ ends e t → (q : List ℕ) → received number slot w (p ++ q) ≡ ends e t
  law_end w p e t r q = go (standing w)
    where
      kinds : Opened w → Kind p → received number slot w (p ++ q) ≡ ends e t
      kinds o (few h) = absurd (let a : waits ≡ ends e t = sym (open_few w o p h) ∙ r in let no : ◌≡◌ {A = ℕ} 0 1 = cc in omega arith)
      kinds o (begun k) = absurd (let a : waits ≡ ends e t = sym (open_begun w o p k) ∙ r in let no : ◌≡◌ {A = ℕ} 0 1 = cc in omega arith)
      kinds o (long k) = open_long w o (p ++ q) (long_more p q k) ∙ sym (open_long w o p k) ∙ r
      kinds o (whole k) = begins w o p (p ++ q) k (take-append-le (size_of p) p q k.all) (omega (arith, length-append p q, k.all)) ∙ r

      go : Standing w → received number slot w (p ++ q) ≡ ends e t
      go (shut k s) = absurd (let a : refuses k ≡ ends e t = sym (s p) ∙ r in let no : ◌≡◌ {A = ℕ} 0 1 = cc in omega arith)
      go (ready o) = kinds o (kind_of p)

  pub law_over : (w : Side) (p : List ℕ) (e : Report) (t : Side) → received number slot w p ≡ ends e t → (q : List ℕ) → received number slot t q ≡ refuses 5
  law_over w p e t r = subst Left r (left w p)

  pub law_shut : (w : Side) (p : List ℕ) (k : ℕ) → received number slot w p ≡ refuses k → (q : List ℕ) → received number slot w q ≡ refuses k
  unfolding parts_applied
  law_shut w p k r q = go (standing w)
    where
      kinds : Opened w → Kind p → ⊥
      kinds o (few h) = let a : waits ≡ refuses k = sym (open_few w o p h) ∙ r in let no : ◌≡◌ {A = ℕ} 0 1 = cc in omega arith
      kinds o (begun b) = let a : waits ≡ refuses k = sym (open_begun w o p b) ∙ r in let no : ◌≡◌ {A = ℕ} 0 1 = cc in omega arith
      kinds o (long b) = let a : ends (refusal ulpdu_too_long) _ ≡ refuses k = sym (open_long w o p b) ∙ r in let no : ◌≡◌ {A = ℕ} 0 1 = cc in omega arith
      kinds o (whole b) = subst (Decides w o p) r (open_whole w o p b)

      go : Standing w → received number slot w q ≡ refuses k
      go (shut j s) = s q ∙ sym (s p) ∙ r
      go (ready o) = absurd (kinds o (kind_of p))

  -- a domain's receive is such a machine
  abbrev pub machine : Machine Side Report
  machine = record {
    receive = received number slot;
    none = law_none;
    some = law_some;
    own = law_own;
    end = law_end;
    over = law_over;
    shut = law_shut;
  }

  -- ---- what is not said by the machine: where it waits or refuses, the domain and its bytes are as they were

  abbrev Stays : Side → Side → Result Answer LocalRefusal → Type 0
  Stays w t (Ok (Wait n)) = t ≡ w
  Stays w t (Ok (Taken total e)) = Unit {0}
  Stays w t (Ok (Ended r)) = Unit {0}
  Stays w t (Err k) = t ≡ w

  unchanged : (w : Side) (r : PartsReceived) (bytes : List ℕ) → r.stream ≡ stream_at w.domain slot → r.invalidate ≡ None → bytes ≡ w.bytes → ◌≡◌ {A = Side} (record { domain = (lifted w.domain slot r).1; bytes = bytes }) w
  unchanged w r bytes e f g =
      let d : Domain = w.domain in
      let streams : set d.streams slot r.stream ≡ d.streams = ap (set d.streams slot) e ∙ set-get_or d.streams slot no_stream in
      let windows : killed r.invalidate d.windows ≡ d.windows = ap (λ (i : Option (ℕ × ℕ)). killed i d.windows) f in
      λ i. record { domain = record { part = d.part; windows = windows i; streams = streams i; meter = d.meter }; bytes = g i }

  stays_of :
      (w : Side) (x : Result SegmentRead Refusal) (r : PartsReceived) (bytes : List ℕ) (a : Result Answer LocalRefusal) → Fair (stream_at w.domain slot) r.stream r.invalidate a → Keeps a w.bytes bytes →
      Stays w (record { domain = metered a x (lifted w.domain slot r).1; bytes = bytes }) a
  stays_of w x r bytes (Ok (Wait n)) f g = unchanged w r bytes f.0 f.1 g
  stays_of w x r bytes (Ok (Taken total e)) f g = tt
  stays_of w x r bytes (Ok (Ended y)) f g = tt
  stays_of w x r bytes (Err k) f g = unchanged w r bytes f.0 f.1 g

  stays : (w : Side) (p : List ℕ) → Stays w (side_after number slot w p) (domain_received w.domain number slot p).0
  unfolding domain_received domain_received_bytes
  stays w p = go (leb slot 3)
    where
      go :
          (b : Bool) →
          Stays w
          (record {
            domain = (pick b (metered_of (segment_read (stream_at w.domain slot).framing.crc p) (lifted w.domain slot (parts_received w.domain.windows number (stream_at w.domain slot) p))) (Err OutOfRange, w.domain)).1;
            bytes = pick b (parts_received_bytes w.domain.part w.domain.windows number (stream_at w.domain slot) p w.bytes) w.bytes;
          })
          (pick b (metered_of (segment_read (stream_at w.domain slot).framing.crc p) (lifted w.domain slot (parts_received w.domain.windows number (stream_at w.domain slot) p))) (Err OutOfRange, w.domain)).0
      go true =
          let r : PartsReceived = parts_received w.domain.windows number (stream_at w.domain slot) p in
          stays_of w (segment_read (stream_at w.domain slot).framing.crc p) r (parts_received_bytes w.domain.part w.domain.windows number (stream_at w.domain slot) p w.bytes) r.answer
          (received_fair w.domain.windows number (stream_at w.domain slot) p) (received_keeps w.domain.part w.domain.windows number (stream_at w.domain slot) p w.bytes)
      go false = refl

  pub wait_stays : (w : Side) (p : List ℕ) (n : ℕ) → (domain_received w.domain number slot p).0 ≡ Ok (Wait n) → side_after number slot w p ≡ w
  wait_stays w p n e = subst (Stays w (side_after number slot w p)) e (stays w p)

  pub refused_stays : (w : Side) (p : List ℕ) (k : LocalRefusal) → (domain_received w.domain number slot p).0 ≡ Err k → side_after number slot w p ≡ w
  refused_stays w p k e = subst (Stays w (side_after number slot w p)) e (stays w p)

  -- ---- and of the bytes that a stream may hold: they are fewer than the FPDU that they begin has, and than the longest one

  pub held_short : (w : Side) (h : List ℕ) → Holds h (received number slot w h) → Short h
  unfolding parts_applied
  held_short w h holds = go (standing w)
    where
      kinds : Opened w → Kind h → Short h
      kinds o (few l) = record { fits = lt_of_lt_of_le l (total-two max_ulpdu); begins = λ g. absurd (omega (arith, l, g)) }
      kinds o (begun k) = record { fits = lt_of_lt_of_le k.less (total_limit max_ulpdu (be16_at h 0) k.low); begins = λ g. (k.low, k.less) }
      kinds o (long k) = absurd (subst (Holds h) (open_long w o h k) holds)
      kinds o (whole k) = absurd (no (received number slot w h) (open_whole w o h k) holds)
        where
          no : (x : Step Side Report) → Decides w o h x → Holds h x → ⊥
          no waits d e = d
          no (took n e t) d f = f
          no (ends e t) d f = f
          no (refuses j) d f = d

      go : Standing w → Short h
      go (shut k s) =
          let none : length h ≡ 0 = ap length (subst (Holds h) (s h) holds) in
          record { fits = omega (arith, none); begins = λ g. absurd (omega (arith, none, g)) }
      go (ready o) = kinds o (kind_of h)
