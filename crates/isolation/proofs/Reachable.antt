-- What every state that a run reaches has: each live window and each waiting buffer lies in its domain's part, what a stream holds is
-- short, and each gauge is well-formed. So the guards of the definitions, which only a malformed state could trip, never fire there, and the paper's rule is the whole truth.
use Prim.Native.Nat.{ℕ, zero, suc, ◌+◌, ◌-◌, ◌/◌, ◌%◌, ◌≤◌, ◌<◌}
use mathlib.Core.Path.{◌≡◌, refl, sym, ap, subst, ◌∙◌}
use mathlib.Core.Bool.{Bool, true, false}
use mathlib.Core.List.{List, [], ◌∷◌, ◌++◌}
use native.Mathlib.Omega.{arith}
use native.Mathlib.Decide.{ℕ_discrete as dec_eq}
use lib.ListN.{length, get_or, set, drop, replicate, length-set, length-append, length-drop, get_or-replicate}
use lib.Seq.{get_or-set_same, get_or-set_other}
use lib.Dec.{leb, ltb, eqb}
use lib.Ieee.{binary64, to_bits}
use borrow.Author.Tests.{leb-true, le-leb, ltb-true, eqb-true}
use borrow.Rule.Slice.PartMut.{mid_len}
use Rattle.wire.specs.Wire.{pick, both, part, put}
use Rattle.wire.proofs.Laws.{length_part}
use Rattle.memory.specs.Part.{in_part}
use Rattle.memory.specs.Window.{no_window, window_at, slot_named, found_in, spanned}
use Rattle.memory.specs.Buffer.{no_buffer, posted, popped_of}
use Rattle.ddp.specs.Tagged.{tagged_of}
use Rattle.ddp.specs.Untagged.{untagged_in, untagged_of}
use Rattle.ddp.specs.Place.{fits, placed}
use Rattle.ddp.specs.Refusal.{invalid_msn, no_buffer_waits, invalid_mo, message_too_long}
use Rattle.ddp.specs.Segment.{segment_read}
use Rattle.memory.specs.declared.part.Part.{Part}
use Rattle.memory.specs.declared.buffer.Buffer.{Buffer}
use Rattle.memory.specs.declared.buffer.Buffers.{Buffers}
use Rattle.ddp.specs.declared.header.UntaggedHeader.{UntaggedHeader}
use Rattle.ddp.specs.declared.segment.SegmentRead.{SegmentRead}
use Rattle.ddp.specs.declared.segment.SegmentRead.TheVariants.{Wait, Tagged as TaggedSegment, Untagged as UntaggedSegment}
use Rattle.memory.specs.declared.window.Window.{Window}
use Rattle.ddp.proofs.Inside.{tagged_in_lem}
use Rattle.memory.proofs.Inside.{Lies, WindowsIn, BuffersIn, registered_in_lem, dropped_in_lem, posted_in, popped_in}
use Rattle.rdmap.specs.Message.{opcode_of, controlled, after, may_write, may_read, write_verdict, fits_queue, takes_stag, invalidated, send_verdict, source_in, source_of, read_verdict, terminate_verdict, message_verdict, stag_named, queue_of, untagged_verdict}
use Rattle.rdmap.specs.Read.{request_at}
use Rattle.rdmap.specs.Refusal.{no_write_right, no_read_right, malformed}
use Rattle.rdmap.specs.Phase.{is_closed, readiness}
use Rattle.rdmap.specs.Sends.{no_buffers, current_buffer}
use Rattle.rdmap.specs.Stream.{closed_stream, holding, opened, closed, posted_when, posted_on, taken_when, taken_from, no_stream}
use Rattle.rdmap.specs.declared.message.Verdict.{Verdict}
use Rattle.rdmap.specs.declared.message.Verdict.TheVariants.{Nothing, Write, SendMore, SendLast, Read, Terminate}
use Rattle.rdmap.specs.declared.read.ReadRequest.{ReadRequest}
use Rattle.rdmap.specs.declared.stream.Stream.{Stream}
use Rattle.meter.specs.Invariant.{MeterWellFormed}
use Rattle.meter.specs.Words.{level_bits}
use Rattle.meter.specs.declared.Meter.{Meter}
use Rattle.meter.proofs.Bits.{level_bits_lem}
use Rattle.meter.proofs.Invariant.{new_well_formed}
use Rattle.domain.specs.Domain.{stream_at, with_stream, with_windows, with_meter, new_domain, domain_opened, domain_closed, domain_posted, domain_taken, domain_registered, domain_dropped, domain_ticked, meter_by, segment_count, metered_of, domain_received, domain_received_bytes, lifted}
use Rattle.arrival.specs.Parts.{applied_bytes, placed_from, parts_applied, tagged_verdict, parts_verdict, parts_judged, parts_placed, parts_answered, parts_when, parts_bytes_when, parts_received, parts_received_bytes, killed}
use Rattle.overlap.specs.Sharing.{writes}
use Rattle.domain.specs.Sharing.{domain_shares}
use Rattle.domain.specs.declared.Domain.{Domain}
use Rattle.arrival.specs.declared.parts.PartsReceived.{PartsReceived}
use Rattle.arrival.specs.declared.parts.Judged.{Judged}
use Rattle.arrival.specs.declared.parts.Judged.TheVariants.{Wait as JudgedWait, Fpdu}
use Rattle.arrival.proofs.Inside.{inside}
use Rattle.memory.specs.Part.{part_fits}
use Rattle.holding.specs.Offer.{is_open, holds_at, domain_receives, domain_receives_bytes, parts_offered, domain_offered, domain_offered_bytes}
use Rattle.rnic.specs.Rnic.{domain_at, bytes_of}
use Rattle.rnic.specs.Offer.{rooms_bytes}
use Rattle.isolation.specs.Book.{Call, Answer, View, Observation, Opening, book_receive, book_offer, book, part_start, part_end}
use Rattle.isolation.specs.Book.Call.{open_stream, close_stream, register, drop_window, post, receive, offer, take_read, live, free, tick, read_gauge, ask_state}
use Rattle.isolation.proofs.Calls.{World, Opened, view}
use Rattle.isolation.proofs.Runs.{Interface, Run}
use Rattle.holding.proofs.Held.{offered-by, offered-bytes}
use Rattle.isolation.proofs.Induction.{run_fit}
use Rattle.isolation.proofs.Invariants.{reached}
use Rattle.isolation.proofs.Gauges.{book-metered}
use Rattle.isolation.proofs.Kept.{picked, lastly-holds}
use Rattle.isolation.proofs.Openings.{opened_fit}
use Rattle.isolation.proofs.Short.{HeldShort, AllShort, new_short, book_short}
use Rattle.isolation.proofs.WellFormed.{Fit, part-fits}
use Rattle.std.specs.Prelude.{Err, None, Ok, Option, Result, Some, ⊤}
use Rattle.ddp.specs.declared.refusal.Refusal.{Refusal}
use Rattle.memory.specs.declared.window.SpanFault.{SpanFault}
use Rattle.memory.specs.declared.window.SpanFault.TheVariants.{Outside, Wrap}
use Rattle.memory.specs.declared.window.StagFault.{StagFault}
use Rattle.memory.specs.declared.window.StagFault.TheVariants.{Foreign, Missing}
use Rattle.wire.specs.declared.refusal.LocalRefusal.{LocalRefusal}
use Rattle.rdmap.specs.declared.stream.Left.{Left}
use Rattle.arrival.specs.declared.Answer.{Answer as ReceiveAnswer}

-- the buffers that wait, of eight entries, lie in a part
pub record Waits (p : Part) (bs : Buffers) : Type 0 where
  pub long : length bs.entries ≡ 8
  pub few : bs.count ≤ 8
  pub inside : BuffersIn p bs

-- each live window of a domain, and each waiting buffer of each of its four streams, lies in its part
pub record Sound (d : Domain) : Type 0 where
  pub windowed : WindowsIn d.part d.windows
  pub four : length d.streams ≡ 4
  pub waiting : (i : ℕ) → i < 4 → Waits d.part (stream_at d i).sends.buffers

-- ---- the buffers of a stream
module _ (p : Part) where
  none-waits : Waits p no_buffers
  none-waits = record { long = refl; few = omega arith; inside = λ i l. absurd (omega arith) }

  abbrev Sized : Buffers → Type 0
  Sized bs = (length bs.entries ≡ 8) × (bs.count ≤ 8)

  posted_when_lem : (t : Bool) (x y : Result ⊤ LocalRefusal × Buffers) → (t ≡ true → Sized x.1) → Sized y.1 → Sized (pick t x y).1
  posted_when_lem true x y f g = f refl
  posted_when_lem false x y f g = g

  posted-sized : (bs : Buffers) (start len : ℕ) → Sized bs → Sized (posted bs p start len).1
  unfolding posted
  posted-sized bs start len h =
      posted_when_lem (in_part p start len) _ _
      (λ e. posted_when_lem (ltb bs.count 8) _ _ (λ f. (length-set bs.entries bs.count (record { start = start; len = len }) ∙ h.0, omega (arith, ltb-true bs.count 8 f))) h)
      h

  posted-waits : (bs : Buffers) (start len : ℕ) → Waits p bs → Waits p (posted bs p start len).1
  posted-waits bs start len w =
      let z = posted-sized bs start len (w.long, w.few) in
      record { long = z.0; few = z.1; inside = posted_in p bs start len w.long w.inside }

  popped_sized : (bs : Buffers) → Sized bs → Sized (popped_of bs)
  unfolding popped_of
  popped_sized bs h = go (eqb bs.count 0)
    where
      go : (t : Bool) → Sized (pick t bs (record { count = bs.count - 1; entries = drop 1 bs.entries ++ (no_buffer ∷ []) }))
      go true = h
      go false = (simp (length-append, length-drop) (omega (arith, h.0)), omega (arith, h.1))

  popped_waits : (bs : Buffers) → Waits p bs → Waits p (popped_of bs)
  popped_waits bs w =
      let z = popped_sized bs (w.long, w.few) in
      record { long = z.0; few = z.1; inside = popped_in p bs (omega arith) w.inside }

  -- ---- a stream's calls
  module _ (s : Stream) (w : Waits p s.sends.buffers) where
    opened-waits : (crc : Bool) → Waits p (opened s crc).1.sends.buffers
    unfolding opened
    opened-waits crc = picked (λ (r : Result ⊤ LocalRefusal × Stream). Waits p r.1.sends.buffers) (is_closed s.phase) _ _ (λ e. none-waits) (λ e. w)

    closed-waits : Waits p (closed s).1.sends.buffers
    unfolding closed
    closed-waits = picked (λ (r : Result Left LocalRefusal × Stream). Waits p r.1.sends.buffers) (is_closed s.phase) _ _ (λ e. w) (λ e. none-waits)

    posted_on_when : (start len : ℕ) (r : Result ⊤ LocalRefusal) → Waits p (posted_when s p start len r).1.sends.buffers
    posted_on_when start len (Ok tt) = posted-waits s.sends.buffers start len w
    posted_on_when start len (Err k) = w

    posted_on_waits : (start len : ℕ) → Waits p (posted_on s p start len).1.sends.buffers
    unfolding posted_on
    posted_on_waits start len = posted_on_when start len (readiness s.phase)

    taken_when_waits : (r : Result ⊤ LocalRefusal) → Waits p (taken_when s r).1.sends.buffers
    taken_when_waits (Ok tt) = picked (λ (r : Result ReadRequest LocalRefusal × Stream). Waits p r.1.sends.buffers) (eqb s.reads.count 0) _ _ (λ e. w) (λ e. w)
    taken_when_waits (Err k) = w

    taken-waits : Waits p (taken_from s).1.sends.buffers
    unfolding taken_from
    taken-waits = taken_when_waits (readiness s.phase)

    -- ---- receive
    applied_waits : (total : ℕ) (v : Result Verdict Refusal) → Waits p (parts_applied s total v).stream.sends.buffers
    unfolding parts_applied
    applied_waits total (Err r) = w
    applied_waits total (Ok Nothing) = w
    applied_waits total (Ok (Write at)) = w
    applied_waits total (Ok (SendMore at opcode taken)) = w
    applied_waits total (Ok (SendLast at opcode start len inv)) = popped_waits s.sends.buffers w
    applied_waits total (Ok (Read r)) = w
    applied_waits total (Ok (Terminate layer etype code)) = w

    answered_waits : (j : Judged) → Waits p (parts_answered s j).stream.sends.buffers
    answered_waits (JudgedWait n) = w
    answered_waits (Fpdu total v) = applied_waits total v

    module _ (ws : List Window) (number : ℕ) (input : List ℕ) where
      when_waits : (r : Result ⊤ LocalRefusal) → Waits p (parts_when ws number s input r).stream.sends.buffers
      when_waits (Ok tt) = answered_waits (parts_judged ws number s input (segment_read s.framing.crc input))
      when_waits (Err n) = w

      received-waits : Waits p (parts_received ws number s input).stream.sends.buffers
      unfolding parts_received
      received-waits = when_waits (readiness s.phase)

  -- ---- an offer
  offered-waits :
      (ws : List Window) (number : ℕ) (s : Stream) (held input : List ℕ) → Waits p s.sends.buffers → Waits p (parts_offered ws number s held input).stream.sends.buffers
  offered-waits ws number s held input w =
      offered-by (λ (r : PartsReceived). Waits p r.stream.sends.buffers) ws number s held input (λ k o. w) (λ n o q. w) (λ total v o. applied_waits (holding s 0) w total v)

-- ---- a new domain
pub none-live : (n i : ℕ) → window_at (replicate n no_window) i ≡ no_window
none-live zero i = refl
none-live (suc n) zero = refl
none-live (suc n) (suc i) = none-live n i

pub new_sound : (start end : ℕ) → Sound (new_domain start end)
new_sound start end = record {
  windowed = λ i l. absurd (let no : true ≡ false = sym l ∙ ap (λ (x : Window). x.live) (none-live 16 i) in let z : ◌≡◌ {A = ℕ} 0 1 = cc in omega arith);
  four = refl;
  waiting = λ i h. subst (λ (s : Stream). Waits (record { start = start; end = end }) s.sends.buffers) (sym (get_or-replicate 4 i closed_stream no_stream h)) (none-waits (record { start = start; end = end }));
}

-- ---- one entry changed
with_stream_lem : (d : Domain) (slot : ℕ) (s : Stream) → Sound d → slot < 4 → Waits d.part s.sends.buffers → Sound (with_stream d slot s)
with_stream_lem d slot s k h w = record {
  windowed = k.windowed;
  four = length-set d.streams slot s ∙ k.four;
  waiting = λ i l. go i l (dec_eq i slot);
}
  where
    go : (i : ℕ) → i < 4 → Dec (i ≡ slot) → Waits d.part (get_or (set d.streams slot s) i no_stream).sends.buffers
    go i l (no e) = subst (λ (x : Stream). Waits d.part x.sends.buffers) (sym (get_or-set_other d.streams slot i s no_stream e)) (k.waiting i l)
    go i l (yes e) =
        subst (λ (n : ℕ). Waits d.part (get_or (set d.streams slot s) n no_stream).sends.buffers) (sym e)
        (subst (λ (x : Stream). Waits d.part x.sends.buffers) (sym (get_or-set_same d.streams slot s no_stream (omega (arith, k.four)))) w)

with_windows_lem : (d : Domain) (ws : List Window) → Sound d → WindowsIn d.part ws → Sound (with_windows d ws)
with_windows_lem d ws k all = record { windowed = all; four = k.four; waiting = k.waiting }

with_meter_lem : (d : Domain) (m : Meter) → Sound d → Sound (with_meter d m)
with_meter_lem d m k = record { windowed = k.windowed; four = k.four; waiting = k.waiting }

pub slot_lt : (slot : ℕ) → leb slot 3 ≡ true → slot < 4
slot_lt slot e = omega (arith, leb-true slot 3 e)

-- ---- each step of a domain keeps it
module _ (d : Domain) (k : Sound d) where
  pub opened_sound : (slot : ℕ) (crc : Bool) → Sound (domain_opened d slot crc).1
  unfolding domain_opened
  opened_sound slot crc =
      picked (λ (r : Result ⊤ LocalRefusal × Domain). Sound r.1) (leb slot 3) _ _
      (λ e. with_stream_lem d slot _ k (slot_lt slot e) (opened-waits d.part (stream_at d slot) (k.waiting slot (slot_lt slot e)) crc)) (λ e. k)

  pub closed_sound : (slot : ℕ) → Sound (domain_closed d slot).1
  unfolding domain_closed
  closed_sound slot =
      picked (λ (r : Result Left LocalRefusal × Domain). Sound r.1) (leb slot 3) _ _
      (λ e. with_stream_lem d slot _ k (slot_lt slot e) (closed-waits d.part (stream_at d slot) (k.waiting slot (slot_lt slot e)))) (λ e. k)

  pub posted_sound : (slot start len : ℕ) → Sound (domain_posted d slot start len).1
  unfolding domain_posted
  posted_sound slot start len =
      picked (λ (r : Result ⊤ LocalRefusal × Domain). Sound r.1) (leb slot 3) _ _
      (λ e. let z = with_stream_lem d slot _ k (slot_lt slot e) (posted_on_waits d.part (stream_at d slot) (k.waiting slot (slot_lt slot e)) start len) in
      lastly-holds Sound (domain_shares d start len) d _ k (λ q f. z) (λ n q. z))
      (λ e. k)

  pub taken_sound : (slot : ℕ) → Sound (domain_taken d slot).1
  unfolding domain_taken
  taken_sound slot =
      picked (λ (r : Result ReadRequest LocalRefusal × Domain). Sound r.1) (leb slot 3) _ _
      (λ e. with_stream_lem d slot _ k (slot_lt slot e) (taken-waits d.part (stream_at d slot) (k.waiting slot (slot_lt slot e)))) (λ e. k)

  pub registered_sound : (slot key base len place rights : ℕ) → Sound (domain_registered d slot key base len place rights).1
  unfolding domain_registered
  registered_sound slot key base len place rights =
      let z = with_windows_lem d _ k (registered_in_lem d.part d.windows slot key base len place rights k.windowed) in
      lastly-holds Sound (both (writes rights) (domain_shares d place len)) d _ k (λ q f. z) (λ n q. z)

  pub dropped_sound : (slot : ℕ) → Sound (domain_dropped d slot).1
  unfolding domain_dropped
  dropped_sound slot = with_windows_lem d _ k (dropped_in_lem d.part d.windows slot k.windowed)

  pub ticked_sound : Sound (domain_ticked d)
  ticked_sound = with_meter_lem d _ k

  -- ---- receive
  killed_in : (inv : Option (ℕ × ℕ)) → WindowsIn d.part (killed inv d.windows)
  killed_in None = k.windowed
  killed_in (Some (i, stag)) = dropped_in_lem d.part d.windows i k.windowed

  -- what receive or an offer makes of the stream of a slot
  lifted_sound : (slot : ℕ) (x : Result SegmentRead Refusal) (r : PartsReceived) → slot < 4 → Waits d.part r.stream.sends.buffers → Sound (metered_of x (lifted d slot r)).1
  lifted_sound slot x r h w =
      with_meter_lem (lifted d slot r).1 (meter_by r.answer (segment_count x) d.meter)
      (with_windows_lem (with_stream d slot r.stream) _ (with_stream_lem d slot r.stream k h w) (killed_in r.invalidate))

  pub received_sound : (number slot : ℕ) (input : List ℕ) → Sound (domain_receives d number slot input).1
  unfolding domain_receives domain_received
  received_sound number slot input =
      let r = parts_received d.windows number (stream_at d slot) input in
      let seg = segment_read (stream_at d slot).framing.crc input in
      picked (λ (x : Result ReceiveAnswer LocalRefusal × Domain). Sound x.1) (holds_at d slot) _ _ (λ e. k)
      (λ q. picked (λ (x : Result ReceiveAnswer LocalRefusal × Domain). Sound x.1) (leb slot 3) (metered_of seg (lifted d slot r)) _
      (λ e. let h = slot_lt slot e in lifted_sound slot seg r h (received-waits d.part (stream_at d slot) (k.waiting slot h) d.windows number input)) (λ e. k))

  pub offered_sound : (number slot : ℕ) (held input : List ℕ) → Sound (domain_offered d number slot held input).1
  unfolding domain_offered
  offered_sound number slot held input =
      let r = parts_offered d.windows number (stream_at d slot) held input in
      let seg = segment_read (stream_at d slot).framing.crc (held ++ input) in
      picked (λ (x : Result ReceiveAnswer LocalRefusal × Domain). Sound x.1) (leb slot 3) (metered_of seg (lifted d slot r)) _
      (λ e. let h = slot_lt slot e in lifted_sound slot seg r h (offered-waits d.part d.windows number (stream_at d slot) held input (k.waiting slot h))) (λ e. k)

-- ---- over a run
pub book_sound : (A : ℕ) (v : View) → Sound v.dom → (c : Call) → Sound (book A v c).after.dom
book_sound A v k (open_stream n crc) = opened_sound v.dom k (n % 4) crc
book_sound A v k (close_stream n) = closed_sound v.dom k (n % 4)
book_sound A v k (register w key base len place rights) = registered_sound v.dom k (w % 16) key base len place rights
book_sound A v k (drop_window w) = dropped_sound v.dom k (w % 16)
book_sound A v k (post n start len) = posted_sound v.dom k (n % 4) start len
book_sound A v k (receive n input size) =
    picked (λ (o : Observation Answer). Sound o.after.dom) (eqb size v.size) (book_receive A v n input) _ (λ e. received_sound v.dom k A (n % 4) input) (λ e. k)
book_sound A v k (offer n input size many) =
    picked (λ (o : Observation Answer). Sound o.after.dom) (both (eqb size v.size) (eqb many rooms_bytes)) (book_offer A v n input) _
    (λ e. offered_sound v.dom k A (n % 4) (v.held (n % 4)) input) (λ e. k)
book_sound A v k (take_read n) = taken_sound v.dom k (n % 4)
book_sound A v k (live d) = k
book_sound A v k (free d) = k
book_sound A v k (tick d) = ticked_sound v.dom k
book_sound A v k (read_gauge d) = k
book_sound A v k (ask_state n) = k

-- what a domain has in every world that a run from an opening reaches
record Reached (v : View) : Type 0 where
  sound : Sound v.dom
  short : AllShort v.dom v.held
  metered : MeterWellFormed v.dom.meter

run_reached :
    (o : Opening) (mem rooms : List ℕ) {I : Interface} {w w₁ : World} {cs : List I.Request} → Opened o mem rooms w → Run I w cs w₁ →
    (A : ℕ) → A < 4 → Reached (view A w₁)
run_reached o mem rooms s r A h_a =
    reached Reached A
    (λ v c k. record { sound = book_sound A v k.sound c; short = book_short A v k.sound.four k.short c; metered = book-metered A v k.metered c }) o mem rooms s r h_a
    (record { sound = new_sound (part_start A o) (part_end A o); short = new_short (part_start A o) (part_end A o); metered = new_well_formed })

pub reached_sound :
    (o : Opening) (mem rooms : List ℕ) {I : Interface} {w w₁ : World} {cs : List I.Request} → Opened o mem rooms w → Run I w cs w₁ →
    (A : ℕ) → A < 4 → Sound (domain_at w₁.dev A)
reached_sound o mem rooms s r A h_a = (run_reached o mem rooms s r A h_a).sound

-- ---- where a payload goes

-- where a verdict places a payload, if it places one
abbrev pub Placing : (ℕ → Type 0) → Result Verdict Refusal → Type 0
Placing Q (Err r) = Unit {0}
Placing Q (Ok Nothing) = Unit {0}
Placing Q (Ok (Write at)) = Q at
Placing Q (Ok (SendMore at opcode taken)) = Q at
Placing Q (Ok (SendLast at opcode start len inv)) = Q at
Placing Q (Ok (Read r)) = Unit {0}
Placing Q (Ok (Terminate layer etype code)) = Unit {0}

-- a verdict that places n bytes places them in the part
abbrev pub Lands : Part → Result Verdict Refusal → ℕ → Type 0
Lands p v n = Placing (λ at. Lies p at n) v

-- the paper's rule, with no guard: "payload byte i goes to place + (TO − base) + i", "to buffer start + MO + i"
abbrev pub ruled : ℕ → Result Verdict Refusal → List ℕ → List ℕ → List ℕ
ruled start (Err r) payload bytes = bytes
ruled start (Ok Nothing) payload bytes = bytes
ruled start (Ok (Write at)) payload bytes = put bytes (at - start) payload
ruled start (Ok (SendMore at opcode taken)) payload bytes = put bytes (at - start) payload
ruled start (Ok (SendLast at opcode from len inv)) payload bytes = put bytes (at - start) payload
ruled start (Ok (Read r)) payload bytes = bytes
ruled start (Ok (Terminate layer etype code)) payload bytes = bytes

abbrev pub payload_of : List ℕ → Result SegmentRead Refusal → List ℕ
payload_of input (Ok (Wait n)) = []
payload_of input (Err r) = []
payload_of input (Ok (TaggedSegment total h start len)) = part input start len
payload_of input (Ok (UntaggedSegment total h start len)) = part input start len

-- what the rule makes of the bytes of domain number, of bytes p on its stream of a slot
abbrev pub by_rule : Domain → ℕ → ℕ → List ℕ → List ℕ → List ℕ
by_rule d number slot p bytes =
    let x : (Result SegmentRead Refusal) = segment_read (stream_at d slot).framing.crc p in
    ruled d.part.start (parts_verdict d.windows number (stream_at d slot) p x) (payload_of p x) bytes

-- what lies in the part is placed whole
pub placed-whole :
    (p : Part) (at : ℕ) (payload bytes : List ℕ) → length bytes ≡ p.end - p.start → Lies p at (length payload) →
    placed_from p.start at payload bytes ≡ put bytes (at - p.start) payload
unfolding placed_from placed fits
placed-whole p at payload bytes e l =
    simp (le-leb p.start at l.0, le-leb (at - p.start + length payload) (length bytes) (omega (arith, l.0, l.1)))

applied_whole :
    (p : Part) (v : Result Verdict Refusal) (payload bytes : List ℕ) → length bytes ≡ p.end - p.start → Lands p v (length payload) →
    applied_bytes p.start v payload bytes ≡ ruled p.start v payload bytes
unfolding applied_bytes
applied_whole p (Err r) payload bytes e l = refl
applied_whole p (Ok Nothing) payload bytes e l = refl
applied_whole p (Ok (Write at)) payload bytes e l = placed-whole p at payload bytes e l
applied_whole p (Ok (SendMore at opcode taken)) payload bytes e l = placed-whole p at payload bytes e l
applied_whole p (Ok (SendLast at opcode start len inv)) payload bytes e l = placed-whole p at payload bytes e l
applied_whole p (Ok (Read r)) payload bytes e l = refl
applied_whole p (Ok (Terminate layer etype code)) payload bytes e l = refl

-- a segment that queue 0 takes: a buffer waits, and the payload ends within it
untagged_fits :
    (s : Stream) (msn mo n start end : ℕ) → untagged_of (queue_of s 0) 0 msn mo n ≡ Ok (start, end) →
    (0 < s.sends.buffers.count) × (start + n ≤ (get_or s.sends.buffers.entries 0 no_buffer).len)
unfolding untagged_of untagged_in queue_of
untagged_fits s msn mo n start end e =
    go (eqb msn s.sends.msn) (ltb 0 s.sends.buffers.count) refl (eqb mo s.sends.taken) (leb (mo + n) (get_or s.sends.buffers.entries 0 no_buffer).len) refl e
  where
    go :
        (a b : Bool) → ltb 0 s.sends.buffers.count ≡ b →
        (c t : Bool) → leb (mo + n) (get_or s.sends.buffers.entries 0 no_buffer).len ≡ t →
        pick {A = Result (ℕ × ℕ) Refusal} a (pick b (pick c (pick t (Ok (mo, (mo + n))) (Err message_too_long)) (Err invalid_mo)) (Err no_buffer_waits)) (Err invalid_msn) ≡ Ok (start, end) →
        (0 < s.sends.buffers.count) × (start + n ≤ (get_or s.sends.buffers.entries 0 no_buffer).len)
    go false b f c t g e = absurd (let no : ◌≡◌ {A = ℕ} 0 1 = cc in omega arith)
    go true false f c t g e = absurd (let no : ◌≡◌ {A = ℕ} 0 1 = cc in omega arith)
    go true true f false t g e = absurd (let no : ◌≡◌ {A = ℕ} 0 1 = cc in omega arith)
    go true true f true false g e = absurd (let no : ◌≡◌ {A = ℕ} 0 1 = cc in omega arith)
    go true true f true true g e =
        let pair : ◌≡◌ {A = ℕ × ℕ} (mo, mo + n) (start, end) = cc in
        let same : mo ≡ start = ap (λ (p : ℕ × ℕ). p.0) pair in
        (ltb-true 0 s.sends.buffers.count f, omega (arith, leb-true (mo + n) (get_or s.sends.buffers.entries 0 no_buffer).len g))

-- ---- a verdict, by the tests that give it
module _ (Q : ℕ → Type 0) where
  pick-lands : (t : Bool) (x y : Result Verdict Refusal) → Placing Q x → Placing Q y → Placing Q (pick t x y)
  pick-lands true x y f g = f
  pick-lands false x y f g = g

  after-lands : (c : Result ⊤ Refusal) (v : Result Verdict Refusal) → Placing Q v → Placing Q (after c v)
  after-lands (Ok tt) v l = l
  after-lands (Err r) v l = tt

  pub write-lands :
      (w : Window) (number stag to control n : ℕ) →
      ((at : ℕ) → tagged_of w number stag to n ≡ Ok (Some at) → may_write w ≡ true → Q at) →
      (t : Result (Option ℕ) Refusal) → tagged_of w number stag to n ≡ t → Placing Q (write_verdict w control t)
  write-lands w number stag to control n one (Err r) e = tt
  write-lands w number stag to control n one (Ok None) e = after-lands (controlled control (eqb (opcode_of control) 0)) (Ok Nothing) tt
  write-lands w number stag to control n one (Ok (Some place)) e =
      after-lands (controlled control (eqb (opcode_of control) 0)) (pick (may_write w) (Ok (Write place)) (Err no_write_right)) (go (may_write w) refl)
    where
      go : (t : Bool) → may_write w ≡ t → Placing Q (pick t (Ok (Write place)) (Err no_write_right))
      go true m = one place e m
      go false m = tt

  invalidated-lands : (b : Buffer) (opcode start end stag : ℕ) → Q (b.start + start) → (f : Result ℕ StagFault) → Placing Q (invalidated b opcode start end stag f)
  invalidated-lands b opcode start end stag l (Err Foreign) = tt
  invalidated-lands b opcode start end stag l (Err Missing) = tt
  invalidated-lands b opcode start end stag l (Ok slot) = l

  send-lands : (w : Window) (number : ℕ) (b : Buffer) (h : UntaggedHeader) (start end : ℕ) → Q (b.start + start) → Placing Q (send_verdict w number b h start end)
  unfolding send_verdict
  send-lands w number b h start end l =
      pick-lands h.last
      (pick (takes_stag (opcode_of h.control))
      (invalidated b (opcode_of h.control) start end h.stag (found_in w number h.stag))
      (Ok (SendLast (b.start + start) (opcode_of h.control) b.start end None)))
      (Ok (SendMore (b.start + start) (opcode_of h.control) end))
      (pick-lands (takes_stag (opcode_of h.control))
      (invalidated b (opcode_of h.control) start end h.stag (found_in w number h.stag))
      (Ok (SendLast (b.start + start) (opcode_of h.control) b.start end None))
      (invalidated-lands b (opcode_of h.control) start end h.stag l (found_in w number h.stag)) l)
      l

  source_in_lands : (w : Window) (r : ReadRequest) (s : Result ℕ SpanFault) → Placing Q (source_in w r s)
  source_in_lands w r (Err Wrap) = tt
  source_in_lands w r (Err Outside) = tt
  source_in_lands w r (Ok place) = pick-lands (may_read w) (Ok (Read r)) (Err no_read_right) tt tt

  source_lands : (w : Window) (r : ReadRequest) (f : Result ℕ StagFault) → Placing Q (source_of w r f)
  source_lands w r (Err Foreign) = tt
  source_lands w r (Err Missing) = tt
  source_lands w r (Ok slot) = source_in_lands w r (spanned w r.source_to r.size)

  read_lands : (w : Window) (number : ℕ) (last : Bool) (payload : List ℕ) → Placing Q (read_verdict w number last payload)
  unfolding read_verdict
  read_lands w number last payload =
      let r = request_at payload in
      let judged = source_of w r (found_in w number r.source_stag) in
      pick-lands (both last (eqb (length payload) 28)) (pick (eqb r.size 0) (Ok (Read r)) judged) (Err malformed)
      (pick-lands (eqb r.size 0) (Ok (Read r)) judged tt (source_lands w r (found_in w number r.source_stag))) tt

  terminate-lands : (last : Bool) (payload : List ℕ) → Placing Q (terminate_verdict last payload)
  unfolding terminate_verdict
  terminate-lands last payload =
      pick-lands (both last (leb 4 (length payload)))
      (Ok (Terminate (get_or payload 0 0 / 16) (get_or payload 0 0 % 16) (get_or payload 1 0))) (Err malformed) tt tt

  module _
      (w : Window) (number : ℕ) (s : Stream) (h : UntaggedHeader) (payload : List ℕ) (n : ℕ)
      (k : (start : ℕ) → 0 < s.sends.buffers.count → start + n ≤ (current_buffer s.sends).len → Q ((current_buffer s.sends).start + start))
    where
      message-lands :
          (start end : ℕ) → untagged_of (queue_of s h.qn) h.qn h.msn h.mo n ≡ Ok (start, end) →
          Placing Q (message_verdict w number (current_buffer s.sends) h start end payload)
      unfolding message_verdict
      message-lands start end e = go (eqb h.qn 0) refl
        where
          first : eqb h.qn 0 ≡ true → Q ((get_or s.sends.buffers.entries 0 no_buffer).start + start)
          first q =
              let z = untagged_fits s h.msn h.mo n start end (subst (λ (m : ℕ). untagged_of (queue_of s m) m h.msn h.mo n ≡ Ok (start, end)) (eqb-true h.qn 0 q) e) in
              k start z.0 z.1

          go :
              (t : Bool) → eqb h.qn 0 ≡ t →
              Placing Q
              (pick t (send_verdict w number (get_or s.sends.buffers.entries 0 no_buffer) h start end)
              (pick (eqb h.qn 1) (read_verdict w number h.last payload) (terminate_verdict h.last payload)))
          go true q = send-lands w number (get_or s.sends.buffers.entries 0 no_buffer) h start end (first q)
          go false q =
              pick-lands (eqb h.qn 1) (read_verdict w number h.last payload) (terminate_verdict h.last payload)
              (read_lands w number h.last payload) (terminate-lands h.last payload)

      pub untagged_lands : (u : Result (ℕ × ℕ) Refusal) → untagged_of (queue_of s h.qn) h.qn h.msn h.mo n ≡ u → Placing Q (untagged_verdict w number s.sends.opcode (current_buffer s.sends) h payload u)
      untagged_lands (Err r) e = tt
      untagged_lands (Ok (start, end)) e =
          after-lands (controlled h.control (fits_queue h.qn s.sends.opcode (opcode_of h.control))) (message_verdict w number (current_buffer s.sends) h start end payload)
          (message-lands start end e)

-- in a sound domain a segment that was read is judged to go into the part, or nowhere
module _ (d : Domain) (k : Sound d) (number slot : ℕ) (h : slot < 4) (input : List ℕ) where
  pub judged_lands :
      (s : Result SegmentRead Refusal) → s ≡ segment_read (stream_at d slot).framing.crc input →
      Lands d.part (parts_verdict d.windows number (stream_at d slot) input s) (length (payload_of input s))
  judged_lands (Ok (Wait n)) e = tt
  judged_lands (Err r) e = tt
  judged_lands (Ok (TaggedSegment total t start len)) e =
      let w = window_at d.windows (slot_named t.stag) in
      subst (Lands d.part (tagged_verdict w number t len))
      (sym (length_part input start len (inside (stream_at d slot).framing.crc input (Ok (TaggedSegment total t start len)) e)))
      (write-lands (λ at. Lies d.part at len) w number t.stag t.to t.control len
      (λ at q m. tagged_in_lem d.part w number t.stag t.to len at (k.windowed (slot_named t.stag)) q) (tagged_of w number t.stag t.to len) refl)
  judged_lands (Ok (UntaggedSegment total t start len)) e =
      untagged_lands (λ at. Lies d.part at (length (part input start len))) (window_at d.windows (slot_named (stag_named t (part input start len)))) number (stream_at d slot) t (part input start len) (length (part input start len))
      (λ at c f. let b = (k.waiting slot h).inside 0 c in (omega (arith, b.0), omega (arith, b.1, f)))
      (untagged_of (queue_of (stream_at d slot) t.qn) t.qn t.msn t.mo (length (part input start len))) refl

  module _ (bytes : List ℕ) (long : length bytes ≡ d.part.end - d.part.start) where
    segment_whole :
        (s : Result SegmentRead Refusal) → s ≡ segment_read (stream_at d slot).framing.crc input →
        parts_placed d.part d.windows number (stream_at d slot) input bytes s ≡ ruled d.part.start (parts_verdict d.windows number (stream_at d slot) input s) (payload_of input s) bytes
    segment_whole (Ok (Wait n)) e = refl
    segment_whole (Err r) e = refl
    segment_whole (Ok (TaggedSegment total t start len)) e =
        applied_whole d.part (parts_verdict d.windows number (stream_at d slot) input (Ok (TaggedSegment total t start len))) (part input start len) bytes long
        (judged_lands (Ok (TaggedSegment total t start len)) e)
    segment_whole (Ok (UntaggedSegment total t start len)) e =
        applied_whole d.part (parts_verdict d.windows number (stream_at d slot) input (Ok (UntaggedSegment total t start len))) (part input start len) bytes long
        (judged_lands (Ok (UntaggedSegment total t start len)) e)

    -- what an open stream receives is placed by the rule alone
    pub placed_where_judged : readiness (stream_at d slot).phase ≡ (Ok tt) → domain_received_bytes d number slot input bytes ≡ by_rule d number slot input bytes
    unfolding domain_received_bytes parts_received_bytes
    placed_where_judged ready =
        ap (λ (t : Bool). pick t (parts_received_bytes d.part d.windows number (stream_at d slot) input bytes) bytes) (le-leb slot 3 (omega arith))
        ∙ ap (λ (r : Result ⊤ LocalRefusal). parts_bytes_when d.part d.windows number (stream_at d slot) input bytes r) ready
        ∙ segment_whole (segment_read (stream_at d slot).framing.crc input) refl

-- the same of receive, where the stream holds nothing, and of an offer, with the pending bytes
module _ (d : Domain) (k : Sound d) (number slot : ℕ) (h : slot < 4) (bytes : List ℕ) (long : length bytes ≡ d.part.end - d.part.start) (ready : readiness (stream_at d slot).phase ≡ (Ok tt)) where
  received-by_rule : (input : List ℕ) → (stream_at d slot).framing.held ≡ 0 → domain_receives_bytes d number slot input bytes ≡ by_rule d number slot input bytes
  unfolding domain_receives_bytes
  received-by_rule input none =
      ap (λ (b : Bool). pick b bytes (domain_received_bytes d number slot input bytes)) empty
      ∙ placed_where_judged d k number slot h input bytes long ready
    where
      off : (a b : Bool) → both a (both b false) ≡ false
      off true true = refl
      off true false = refl
      off false b = refl

      empty : holds_at d slot ≡ false
      empty = ap (λ (n : ℕ). both (leb slot 3) (both (is_open (stream_at d slot)) (ltb 0 n))) none ∙ off (leb slot 3) (is_open (stream_at d slot))

  offered-by_rule : (held input : List ℕ) → domain_offered_bytes d number slot held input bytes ≡ by_rule d number slot (held ++ input) bytes
  offered-by_rule held input = offered-bytes d number slot held input bytes ∙ placed_where_judged d k number slot h (held ++ input) bytes long ready

-- ---- every world that a run from an opening reaches: no domain's part lies out of the store, and a payload that is judged to be
-- placed lies in the part, so that what becomes of the bytes is the rule with no guard. What a stream holds fits its room. A gauge has no
-- NaN, nothing infinite and nothing negative, so that the words of a reading are its floats' own bits
pub record Unguarded (w : World) (A : ℕ) : Type 0 where
  pub sound : Sound (domain_at w.dev A)
  pub in_store : part_fits (domain_at w.dev A).part (length w.mem) ≡ true
  pub held_short : (slot : ℕ) → slot < 4 → HeldShort (stream_at (domain_at w.dev A) slot) ((view A w).held slot)
  pub in_part_lem :
      (slot : ℕ) → slot < 4 → (input : List ℕ) (s : Result SegmentRead Refusal) → s ≡ segment_read (stream_at (domain_at w.dev A) slot).framing.crc input →
      Lands (domain_at w.dev A).part (parts_verdict (domain_at w.dev A).windows A (stream_at (domain_at w.dev A) slot) input s) (length (payload_of input s))
  pub metered : MeterWellFormed (domain_at w.dev A).meter
  pub level_bits_lem : level_bits (domain_at w.dev A).meter.gauge.level ≡ to_bits binary64 (domain_at w.dev A).meter.gauge.level
  pub peak_bits : level_bits (domain_at w.dev A).meter.gauge.peak ≡ to_bits binary64 (domain_at w.dev A).meter.gauge.peak
  -- receive on an open stream that holds nothing
  pub by_rule_lem :
      (slot : ℕ) → slot < 4 → (input : List ℕ) → readiness (stream_at (domain_at w.dev A) slot).phase ≡ (Ok tt) → (view A w).held slot ≡ [] →
      domain_receives_bytes (domain_at w.dev A) A slot input (bytes_of (domain_at w.dev A) w.mem) ≡ by_rule (domain_at w.dev A) A slot input (bytes_of (domain_at w.dev A) w.mem)
  -- an offer on an open stream, of the pending bytes
  pub offered-by_rule :
      (slot : ℕ) → slot < 4 → (input : List ℕ) → readiness (stream_at (domain_at w.dev A) slot).phase ≡ (Ok tt) →
      domain_offered_bytes (domain_at w.dev A) A slot ((view A w).held slot) input (bytes_of (domain_at w.dev A) w.mem)
      ≡ by_rule (domain_at w.dev A) A slot ((view A w).held slot ++ input) (bytes_of (domain_at w.dev A) w.mem)

pub guards_never_fire :
    (o : Opening) (mem rooms : List ℕ) {I : Interface} {w w₁ : World} {cs : List I.Request} → Opened o mem rooms w → Run I w cs w₁ →
    (A : ℕ) → A < 4 → Unguarded w₁ A
guards_never_fire o mem rooms {I = I} {w = w} {w₁ = w₁} s r A h_a =
    let f : Fit w₁ = run_fit I (opened_fit o mem rooms w s) r in
    let d : Domain = domain_at w₁.dev A in
    let k : Reached (view A w₁) = run_reached o mem rooms s r A h_a in
    let bytes : List ℕ = bytes_of d w₁.mem in
    let long : length bytes ≡ d.part.end - d.part.start = mid_len _ _ w₁.mem (f.within A h_a) in
    record {
      sound = k.sound;
      in_store = part-fits w₁ f A h_a (length w₁.mem) refl;
      held_short = k.short;
      in_part_lem = λ slot h input. judged_lands d k.sound A slot h input;
      metered = k.metered;
      level_bits_lem = level_bits_lem d.meter.gauge.level k.metered.gauge.finite.level;
      peak_bits = level_bits_lem d.meter.gauge.peak k.metered.gauge.finite.peak;
      by_rule_lem = λ slot h input ready e. received-by_rule d k.sound A slot h bytes long ready input (sym (k.short slot h).counted ∙ ap length e);
      offered-by_rule = λ slot h input ready. offered-by_rule d k.sound A slot h bytes long ready ((view A w₁).held slot) input;
    }
