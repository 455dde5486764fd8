-- An offer to a stream of a domain is the offer of the crate `cuts` over that domain's receive: the same answer, domain, bytes and held bytes.
-- The argument: receive leaves a stream's framing, so that one that holds nothing still does.
use Prim.Native.Nat.{ℕ, ◌+◌, ◌≤◌, ◌<◌}
use mathlib.Core.Path.{◌≡◌, refl, sym, ap, subst, ◌∙◌}
use mathlib.Core.Bool.{Bool, true, false}
use mathlib.Core.List.{List, [], ◌++◌}
use native.Mathlib.Omega.{arith}
use lib.ListN.{length, get_or, set, length-append, get_or-eq_default}
use lib.Seq.{get_or-set_same, set-get_or, set-set, set_out}
use lib.Dec.{leb, ltb, eqb}
use borrow.Author.Tests.{leb-true, leb-false, ltb-true, ltb-false, eqb-true, le-leb}
use Rattle.wire.specs.Wire.{pick}
use Rattle.memory.specs.declared.window.Window.{Window}
use Rattle.ddp.specs.Segment.{segment_read}
use Rattle.ddp.specs.declared.segment.SegmentRead.{SegmentRead}
use Rattle.ddp.specs.declared.segment.SegmentRead.TheVariants.{Wait as SegmentWait, Tagged as TaggedSegment, Untagged as UntaggedSegment}
use Rattle.rdmap.specs.Phase.{readiness}
use Rattle.rdmap.specs.Stream.{holding, no_stream}
use Rattle.rdmap.specs.declared.framing.Framing.{Framing}
use Rattle.rdmap.specs.declared.message.Verdict.{Verdict}
use Rattle.rdmap.specs.declared.message.Verdict.TheVariants.{Nothing, Write, SendMore, SendLast, Read, Terminate}
use Rattle.rdmap.specs.declared.stream.Stream.{Stream}
use Rattle.meter.specs.declared.Meter.{Meter}
use Rattle.domain.specs.Domain.{stream_at, with_stream, domain_received, domain_received_bytes, with_meter, segment_count, meter_by, metered, metered_of, lifted}
use Rattle.arrival.specs.Parts.{parts_applied, parts_verdict, parts_judged, parts_answered, parts_when, parts_received, parts_received_bytes, parts_unchanged, killed}
use Rattle.domain.specs.declared.Domain.{Domain}
use Rattle.arrival.specs.declared.Answer.{Answer}
use Rattle.arrival.specs.declared.Answer.TheVariants.{Wait, Taken, Ended}
use Rattle.arrival.specs.declared.parts.PartsReceived.{PartsReceived}
use Rattle.cuts.specs.Cuts.{Holds, Offered, offer_of, offer}
use Rattle.cuts.specs.Received.{Side, Report, side_after, step_of, received, MayHold, Short}
use Rattle.cuts.proofs.Cuts.{offer-holding}
use Rattle.cuts.proofs.Domain.{new_holds}
use Rattle.cuts.proofs.Received.{machine, Opened, open_few, open_begun, wait_stays, refused_stays}
use Rattle.holding.specs.Offer.{is_open, offer_answer, parts_held, parts_offered, parts_offered_bytes, held_of, domain_offered, domain_offered_bytes, domain_offered_held}
use Rattle.holding.specs.Machine.{side_of, answer_of}
use Rattle.std.specs.Prelude.{Err, Ok, Result, ⊤}
use Rattle.ddp.specs.declared.refusal.Refusal.{Refusal}
use Rattle.wire.specs.declared.refusal.LocalRefusal.{LocalRefusal}
use Rattle.wire.specs.declared.refusal.LocalRefusal.TheVariants.{NotOpen, OutOfRange, StreamEnded}

-- ---- receive leaves a stream's framing

pub applied_framing : (s : Stream) (total : ℕ) (v : Result Verdict Refusal) → (parts_applied s total v).stream.framing ≡ s.framing
unfolding parts_applied
applied_framing s total (Err r) = refl
applied_framing s total (Ok Nothing) = refl
applied_framing s total (Ok (Write at)) = refl
applied_framing s total (Ok (SendMore at opcode taken)) = refl
applied_framing s total (Ok (SendLast at opcode start len inv)) = refl
applied_framing s total (Ok (Read r)) = refl
applied_framing s total (Ok (Terminate layer etype code)) = refl

module _ (ws : List Window) (number : ℕ) (s : Stream) (input : List ℕ) where
  answered_framing : (x : Result SegmentRead Refusal) → (parts_answered s (parts_judged ws number s input x)).stream.framing ≡ s.framing
  answered_framing (Ok (SegmentWait n)) = refl
  answered_framing (Err r) = applied_framing s 0 (Err r)
  answered_framing (Ok (TaggedSegment total h start len)) = applied_framing s total (parts_verdict ws number s input (Ok (TaggedSegment total h start len)))
  answered_framing (Ok (UntaggedSegment total h start len)) = applied_framing s total (parts_verdict ws number s input (Ok (UntaggedSegment total h start len)))

  pub received-framing : (parts_received ws number s input).stream.framing ≡ s.framing
  unfolding parts_received
  received-framing = go (readiness s.phase)
    where
      go : (x : Result ⊤ LocalRefusal) → (parts_when ws number s input x).stream.framing ≡ s.framing
      go (Ok tt) = answered_framing (segment_read s.framing.crc input)
      go (Err k) = refl

-- a stream that held nothing holds nothing after it
holding-none : (s t : Stream) → t.framing ≡ (holding s 0).framing → holding t 0 ≡ t
holding-none s t e i = record {
  phase = t.phase;
  framing = (ap (λ (f : Framing). record { crc = f.crc; held = 0 }) e ∙ sym e) i;
  sends = t.sends;
  reads = t.reads;
  terminates = t.terminates;
}

-- the domain of a state, with a stream that says how many bytes it holds
abbrev pub domain_of : ℕ → Side → List ℕ → Domain
domain_of slot w held = with_stream w.domain slot (holding (stream_at w.domain slot) (length held))

-- ---- a domain's streams, by slot

module _ (slot : ℕ) where
  -- a slot is one of the domain's, or no stream is in it
  inside : (P : Type 0) (l : List Stream) → (slot < length l → P) → (length l ≤ slot → P) → P
  inside P l f g = go (leb (length l) slot) refl
    where
      go : (b : Bool) → leb (length l) slot ≡ b → P
      go true q = g (leb-true (length l) slot q)
      go false q = f (leb-false (length l) slot q)

  -- a stream put in, and then emptied of held bytes
  put_emptied : (l : List Stream) (t : Stream) → set (set l slot t) slot (holding (get_or (set l slot t) slot no_stream) 0) ≡ set l slot (holding t 0)
  put_emptied l t =
      set-set l slot t (holding (get_or (set l slot t) slot no_stream) 0)
      ∙ inside (set l slot (holding (get_or (set l slot t) slot no_stream) 0) ≡ set l slot (holding t 0)) l
      (λ h. ap (λ (x : Stream). set l slot (holding x 0)) (get_or-set_same l slot t no_stream h))
      (λ h. set_out l slot (holding (get_or (set l slot t) slot no_stream) 0) h ∙ sym (set_out l slot (holding t 0) h))

  -- a stream emptied of held bytes is there
  emptied_there : (l : List Stream) → get_or (set l slot (holding (get_or l slot no_stream) 0)) slot no_stream ≡ holding (get_or l slot no_stream) 0
  emptied_there l =
      let s : Stream = get_or l slot no_stream in
      inside (get_or (set l slot (holding s 0)) slot no_stream ≡ holding s 0) l (get_or-set_same l slot (holding s 0) no_stream)
      (λ h.
      let none : s ≡ no_stream = get_or-eq_default l no_stream h in
      ap (λ (x : List Stream). get_or x slot no_stream) (set_out l slot (holding s 0) h) ∙ none ∙ ap (λ (x : Stream). holding x 0) (sym none))

module _ (d : Domain) (slot : ℕ) where
  -- the domain again, of its state and the bytes that the stream holds
  pub domain_back : (held bytes : List ℕ) → (stream_at d slot).framing.held ≡ length held → domain_of slot (side_of slot d bytes) held ≡ d
  domain_back held bytes q i = record { part = d.part; windows = d.windows; streams = back i; meter = d.meter }
    where
      back : set (set d.streams slot (holding (stream_at d slot) 0)) slot (holding (stream_at (side_of slot d bytes).domain slot) (length held)) ≡ d.streams
      back =
          set-set d.streams slot (holding (stream_at d slot) 0) (holding (stream_at (side_of slot d bytes).domain slot) (length held))
          ∙ ap (λ (s : Stream). set d.streams slot (holding s (length held))) (emptied_there slot d.streams)
          ∙ ap (λ (n : ℕ). set d.streams slot (holding (stream_at d slot) n)) (sym q)
          ∙ set-get_or d.streams slot no_stream

-- ---- the offer

module _ (d : Domain) (number slot : ℕ) where
  abbrev own : Stream
  own = stream_at d slot

  -- what receive makes of the pending bytes, where the stream holds none
  abbrev made : List ℕ → PartsReceived
  made p = parts_received d.windows number (holding own 0) p

  abbrev made_bytes : List ℕ → List ℕ → List ℕ
  made_bytes p bytes = parts_received_bytes d.part d.windows number (holding own 0) p bytes

  -- the meter after it
  abbrev made_meter : List ℕ → Meter
  made_meter p = meter_by (made p).answer (segment_count (segment_read own.framing.crc p)) d.meter

  abbrev made_side : List ℕ → List ℕ → Side
  made_side p bytes = record { domain = with_meter (lifted d slot (made p)).1 (made_meter p); bytes = made_bytes p bytes }

  -- a stream that waits is one of the domain's
  wait_inside : (p : List ℕ) (n : ℕ) → (made p).answer ≡ Ok (Wait n) → slot < length d.streams
  unfolding parts_received
  wait_inside p n e =
      inside slot (slot < length d.streams) d.streams (λ l. l)
      (λ l.
      let none : own ≡ no_stream = get_or-eq_default d.streams no_stream l in
      let no : Err NotOpen ≡ Ok (Wait n) = ap (λ (s : Stream). (parts_received d.windows number (holding s 0) p).answer) (sym none) ∙ e in
      absurd (let no : ◌≡◌ {A = ℕ} 0 1 = cc in omega arith))

  module _ (h : slot ≤ 3) where
    module _ (p bytes : List ℕ) where
      domain-is : domain_received (side_of slot d bytes).domain number slot p ≡ metered_of (segment_read own.framing.crc p) (lifted d slot (made p))
      unfolding domain_received
      domain-is =
          let d₀ : Domain = (side_of slot d bytes).domain in
          ap (λ (b : Bool). pick b (metered_of (segment_read (stream_at d₀ slot).framing.crc p) (lifted d₀ slot (parts_received d.windows number (stream_at d₀ slot) p))) (Err OutOfRange, d₀)) (le-leb slot 3 h)
          ∙ ap (λ (s : Stream). metered_of (segment_read s.framing.crc p) (lifted d₀ slot (parts_received d.windows number s p))) (emptied_there slot d.streams)
          ∙ (λ i. ((made p).answer, record { part = d.part; windows = killed (made p).invalidate d.windows; streams = set-set d.streams slot (holding own 0) (made p).stream i; meter = made_meter p }))

      bytes-are : domain_received_bytes (side_of slot d bytes).domain number slot p bytes ≡ made_bytes p bytes
      unfolding domain_received_bytes
      bytes-are =
          let d₀ : Domain = (side_of slot d bytes).domain in
          ap (λ (b : Bool). pick b (parts_received_bytes d.part d.windows number (stream_at d₀ slot) p bytes) bytes) (le-leb slot 3 h)
          ∙ ap (λ (s : Stream). parts_received_bytes d.part d.windows number s p bytes) (emptied_there slot d.streams)

      step_is : received number slot (side_of slot d bytes) p ≡ step_of (made p).answer (made_side p bytes)
      unfolding received
      step_is i = step_of (domain-is i).0 (record { domain = (domain-is i).1; bytes = bytes-are i })

    -- ---- which bytes a stream may hold

    module _ (held bytes : List ℕ) where
      emptied_opened : is_open own ≡ true → Opened number slot (side_of slot d bytes)
      emptied_opened o = record {
        inside = h;
        ready = ap (λ (s : Stream). readiness s.phase) (emptied_there slot d.streams)
            ∙ ap (λ (n : ℕ). pick (eqb n 0) (Err NotOpen) (pick (eqb n 1) (Ok tt) (Err StreamEnded))) (eqb-true own.phase.state 1 o);
      }

      -- an open stream, fewer than the FPDU that they begin has
      pub open_holds : is_open own ≡ true → Short held → MayHold number slot (side_of slot d bytes) held
      open_holds o s = go (ltb (length held) 2) refl
        where
          w : Side
          w = side_of slot d bytes

          go : (b : Bool) → ltb (length held) 2 ≡ b → MayHold number slot (side_of slot d bytes) held
          go true q = subst (Holds held) (sym (open_few number slot w (emptied_opened o) held (ltb-true (length held) 2 q))) tt
          go false q =
              let two : 2 ≤ length held = ltb-false (length held) 2 q in
              let b = s.begins two in
              subst (Holds held) (sym (open_begun number slot w (emptied_opened o) held (record { begun = two; low = b.0; less = b.1 }))) tt

      -- and a stream that is not open, none
      pub may_hold : (is_open own ≡ true → Short held) → (is_open own ≡ false → held ≡ []) → MayHold number slot (side_of slot d bytes) held
      may_hold f g = go (is_open own) refl
        where
          go : (b : Bool) → is_open own ≡ b → MayHold number slot (side_of slot d bytes) held
          go true o = open_holds o (f o)
          go false o = subst (MayHold number slot (side_of slot d bytes)) (sym (g o)) (new_holds number slot (side_of slot d bytes))

    -- ---- a call

    -- the state after parts were exchanged
    emptied :
        (r : PartsReceived) (m : Meter) (t : Stream) → holding r.stream 0 ≡ t → (bytes : List ℕ) →
        side_of slot (with_meter (lifted d slot r).1 m) bytes ≡ record { domain = with_meter (lifted d slot (record { answer = r.answer; stream = t; invalidate = r.invalidate })).1 m; bytes = bytes }
    emptied r m t e bytes i = record {
      domain = record { part = d.part; windows = killed r.invalidate d.windows; streams = (put_emptied slot d.streams r.stream ∙ ap (set d.streams slot) e) i; meter = m };
      bytes = bytes;
    }

    module _ (held input bytes : List ℕ) where
      abbrev pending : List ℕ
      pending = held ++ input

      abbrev parts : Result Answer LocalRefusal → PartsReceived
      parts a = parts_held own (length held + length input) (made pending) a

      -- what the offer is, of the parts that it made
      abbrev of_parts : PartsReceived → Offered Side Report
      of_parts r = record {
        answer = answer_of (offer_answer (length held) (length input) r.answer);
        state = side_of slot (metered r.answer (segment_read own.framing.crc pending) (lifted d slot r).1) (made_bytes pending bytes);
        held = held_of held input r.answer;
      }

      -- an FPDU that was taken, or that ended the stream
      changed : side_of slot (with_meter (lifted d slot (made pending)).1 (made_meter pending)) (made_bytes pending bytes) ≡ made_side pending bytes
      changed = emptied (made pending) (made_meter pending) (made pending).stream (holding-none own (made pending).stream (received-framing d.windows number (holding own 0) pending)) (made_bytes pending bytes)

      judged : (a : Result Answer LocalRefusal) → (made pending).answer ≡ a → record { answer = answer_of (offer_answer (length held) (length input) a); state = made_side pending bytes; held = held_of held input a } ≡ of_parts (made pending)
      judged a e i = record { answer = answer_of (offer_answer (length held) (length input) (sym e i)); state = sym changed i; held = held_of held input (sym e i) }

      -- where nothing is made of them the domain and its bytes are as they were
      unchanged : (a : Result Answer LocalRefusal) (m : ℕ) → side_after number slot (side_of slot d bytes) pending ≡ side_of slot d bytes → side_of slot d bytes ≡ side_of slot (lifted d slot (parts_unchanged (holding own m) a)).1 (made_bytes pending bytes)
      unchanged a m e =
          let same : made_bytes pending bytes ≡ bytes = sym (bytes-are pending bytes) ∙ ap (λ (w : Side). w.bytes) e in
          sym (emptied (parts_unchanged (holding own m) a) d.meter (holding own 0) refl (made_bytes pending bytes) ∙ (λ i. record { domain = (side_of slot d bytes).domain; bytes = same i }))

      by_answer : (a : Result Answer LocalRefusal) → (made pending).answer ≡ a → offer_of (side_of slot d bytes) held input (step_of a (made_side pending bytes)) ≡ of_parts (parts a)
      by_answer (Ok (Wait n)) e = λ i. record {
        answer = answer_of (offer_answer (length held) (length input) (Ok (Wait n)));
        state = unchanged (Ok (Wait n)) (length held + length input) (wait_stays number slot (side_of slot d bytes) pending n (ap (λ (r : Result Answer LocalRefusal × Domain). r.0) (domain-is pending bytes) ∙ e)) i;
        held = held ++ input;
      }
      by_answer (Ok (Taken total x)) e = judged (Ok (Taken total x)) e
      by_answer (Ok (Ended x)) e = judged (Ok (Ended x)) e
      by_answer (Err k) e = λ i. record {
        answer = answer_of (offer_answer (length held) (length input) (Err k));
        state = unchanged (Err k) own.framing.held (refused_stays number slot (side_of slot d bytes) pending k (ap (λ (r : Result Answer LocalRefusal × Domain). r.0) (domain-is pending bytes) ∙ e)) i;
        held = held;
      }

      offered-is : domain_offered d number slot held input ≡ metered_of (segment_read own.framing.crc pending) (lifted d slot (parts (made pending).answer))
      unfolding domain_offered parts_offered
      offered-is = ap (λ (b : Bool). pick b (metered_of (segment_read own.framing.crc pending) (lifted d slot (parts (made pending).answer))) (Err OutOfRange, d)) (le-leb slot 3 h)

      offered-bytes : domain_offered_bytes d number slot held input bytes ≡ made_bytes pending bytes
      unfolding domain_offered_bytes parts_offered_bytes
      offered-bytes = ap (λ (b : Bool). pick b (made_bytes pending bytes) bytes) (le-leb slot 3 h)

      -- one call
      pub offer-is :
          offer (received number slot) (side_of slot d bytes) held input
          ≡ record {
            answer = answer_of (offer_answer (length held) (length input) (domain_offered d number slot held input).0);
            state = side_of slot (domain_offered d number slot held input).1 (domain_offered_bytes d number slot held input bytes);
            held = domain_offered_held d number slot held input;
          }
      unfolding offer domain_offered_held
      offer-is =
          ap (offer_of (side_of slot d bytes) held input) (step_is pending bytes)
          ∙ by_answer (made pending).answer refl
          ∙ (λ i. record {
            answer = answer_of (offer_answer (length held) (length input) (sym offered-is i).0);
            state = side_of slot (sym offered-is i).1 (sym offered-bytes i);
            held = held_of held input (sym offered-is i).0;
          })

      -- so what is held afterwards completes nothing either
      pub offer-holds : MayHold number slot (side_of slot d bytes) held → MayHold number slot (side_of slot (domain_offered d number slot held input).1 (domain_offered_bytes d number slot held input bytes)) (domain_offered_held d number slot held input)
      offer-holds w = subst (λ (o : Offered Side Report). MayHold number slot o.state o.held) offer-is (offer-holding (machine number slot) (side_of slot d bytes) held input [] w)

      -- ---- how many bytes are held

      -- a stream that took an FPDU or ended holds none
      emptied_held : (stream_at (lifted d slot (made pending)).1 slot).framing.held ≡ 0
      emptied_held =
          inside slot ((stream_at (lifted d slot (made pending)).1 slot).framing.held ≡ 0) d.streams
          (λ l. ap (λ (s : Stream). s.framing.held) (get_or-set_same d.streams slot (made pending).stream no_stream l) ∙ ap (λ (f : Framing). f.held) (received-framing d.windows number (holding own 0) pending))
          (λ l. ap (λ (x : List Stream). (get_or x slot no_stream).framing.held) (set_out d.streams slot (made pending).stream l) ∙ ap (λ (s : Stream). s.framing.held) (get_or-eq_default d.streams no_stream l))

      -- where the stream's record says how many bytes are held, it does so afterwards
      counted-by :
          (a : Result Answer LocalRefusal) → (made pending).answer ≡ a → own.framing.held ≡ length held →
          (stream_at (lifted d slot (parts a)).1 slot).framing.held ≡ length (held_of held input (parts a).answer)
      counted-by (Ok (Wait n)) e q =
          ap (λ (s : Stream). s.framing.held) (get_or-set_same d.streams slot (holding own (length held + length input)) no_stream (wait_inside pending n e))
          ∙ sym (length-append held input)
      counted-by (Ok (Taken total x)) e q = emptied_held ∙ ap (λ (b : Result Answer LocalRefusal). length (held_of held input b)) (sym e)
      counted-by (Ok (Ended x)) e q = emptied_held ∙ ap (λ (b : Result Answer LocalRefusal). length (held_of held input b)) (sym e)
      counted-by (Err k) e q = ap (λ (l : List Stream). (get_or l slot no_stream).framing.held) (set-get_or d.streams slot no_stream) ∙ q

      pub offer-counted :
          own.framing.held ≡ length held →
          (stream_at (domain_offered d number slot held input).1 slot).framing.held ≡ length (domain_offered_held d number slot held input)
      unfolding domain_offered_held
      offer-counted q =
          ap (λ (r : Result Answer LocalRefusal × Domain). (stream_at r.1 slot).framing.held) offered-is
          ∙ counted-by (made pending).answer refl q
          ∙ ap (λ (r : Result Answer LocalRefusal × Domain). length (held_of held input r.0)) (sym offered-is)

      -- ---- a local refusal changes nothing

      refused-by : (k : LocalRefusal) (a : Result Answer LocalRefusal) → (made pending).answer ≡ a → (parts a).answer ≡ Err k → (metered (parts a).answer (segment_read own.framing.crc pending) (lifted d slot (parts a)).1 ≡ d) × (made_bytes pending bytes ≡ bytes)
      refused-by k (Ok (Wait n)) e q = absurd (let no : ◌≡◌ {A = ℕ} 0 1 = cc in omega arith)
      refused-by k (Ok (Taken total x)) e q = absurd (let no : ◌≡◌ {A = ℕ} 0 1 = cc in omega arith)
      refused-by k (Ok (Ended x)) e q = absurd (let no : ◌≡◌ {A = ℕ} 0 1 = cc in omega arith)
      refused-by k (Err j) e q = (
        λ i. record { part = d.part; windows = d.windows; streams = set-get_or d.streams slot no_stream i; meter = d.meter },
        sym (bytes-are pending bytes) ∙ ap (λ (w : Side). w.bytes) (refused_stays number slot (side_of slot d bytes) pending j (ap (λ (r : Result Answer LocalRefusal × Domain). r.0) (domain-is pending bytes) ∙ e)),
      )

      pub offer-refused :
          (k : LocalRefusal) → (domain_offered d number slot held input).0 ≡ Err k →
          ((domain_offered d number slot held input).1 ≡ d) × (domain_offered_bytes d number slot held input bytes ≡ bytes) × (domain_offered_held d number slot held input ≡ held)
      unfolding domain_offered_held
      offer-refused k q =
          let r = refused-by k (made pending).answer refl (ap (λ (r : Result Answer LocalRefusal × Domain). r.0) (sym offered-is) ∙ q) in (
            ap (λ (r : Result Answer LocalRefusal × Domain). r.1) offered-is ∙ r.0,
            offered-bytes ∙ r.1,
            ap (held_of held input) q,
          )
