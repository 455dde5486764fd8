-- The writers of a domain share no byte: each step of a domain keeps it so. Dropping, closing, taking, receiving and offering leave fewer writers,
-- each where it was; registering and posting add at most one, which shares no byte with those that are there, or 19 refuses it.
use Prim.Native.Nat.{ℕ, zero, suc, ◌+◌, ◌-◌, ◌≤◌, ◌<◌}
use mathlib.Core.Logic.{◌≢◌}
use mathlib.Core.Path.{◌≡◌, refl, sym, ap, ap₂, subst, ◌∙◌}
use mathlib.Core.Bool.{Bool, true, false}
use mathlib.Core.List.{List, [], ◌∷◌, ◌++◌}
use native.Mathlib.Omega.{arith}
use native.Mathlib.Decide.{dec_lt, ℕ_discrete as dec_eq}
use lib.ListN.{length, get_or, set, take, drop, replicate, length-drop, get_or-append}
use lib.Seq.{get_or-set_same, get_or-set_other, set_out, get_or-drop}
use lib.Dec.{leb, ltb, eqb}
use borrow.Author.Tests.{ltb-true, lt-ltb, eqb-true}
use Rattle.wire.specs.Wire.{pick, both}
use Rattle.memory.specs.Part.{in_part}
use Rattle.memory.specs.Window.{no_window, window_at, in_range, window_fits, keeping, refusing, entering, registered_in, registered, dead_of, dropped_in, dropped}
use Rattle.memory.specs.Buffer.{no_buffer, appended, posted, popped_of}
use Rattle.memory.specs.declared.part.Part.{Part}
use Rattle.memory.specs.declared.buffer.Buffer.{Buffer}
use Rattle.memory.specs.declared.buffer.Buffers.{Buffers}
use Rattle.memory.specs.declared.window.Window.{Window}
use Rattle.ddp.specs.Segment.{segment_read}
use Rattle.ddp.specs.declared.segment.SegmentRead.{SegmentRead}
use Rattle.rdmap.specs.Phase.{is_closed, readiness}
use Rattle.rdmap.specs.Sends.{no_buffers}
use Rattle.rdmap.specs.Stream.{closed_stream, with_sends, holding, opened, closed, posted_when, posted_on, taken_when, taken_from, no_stream}
use Rattle.rdmap.specs.declared.message.Verdict.{Verdict}
use Rattle.rdmap.specs.declared.message.Verdict.TheVariants.{Nothing, Write, SendMore, SendLast, Read, Terminate}
use Rattle.rdmap.specs.declared.stream.Stream.{Stream}
use Rattle.meter.specs.declared.Meter.{Meter}
use Rattle.meter.specs.Gauge.{ticked_meter}
use Rattle.domain.specs.Domain.{stream_at, with_stream, with_windows, with_meter, new_domain, domain_opened, domain_closed, domain_posted, domain_taken, domain_registered, domain_dropped, domain_ticked, meter_by, segment_count, metered_of, domain_received, lifted}
use Rattle.arrival.specs.Parts.{parts_applied, parts_judged, parts_answered, parts_when, parts_received, killed}
use Rattle.overlap.specs.Sharing.{either, shares, writes, writable, window_shares, windows_share, waiting, buffers_share, streams_share}
use Rattle.domain.specs.Sharing.{domain_shares, lastly}
use Rattle.domain.specs.declared.Domain.{Domain}
use Rattle.arrival.specs.declared.parts.PartsReceived.{PartsReceived}
use Rattle.arrival.specs.declared.parts.Judged.{Judged}
use Rattle.arrival.specs.declared.parts.Judged.TheVariants.{Wait as JudgedWait, Fpdu}
use Rattle.holding.specs.Offer.{holds_at, domain_receives, parts_offered, domain_offered}
use Rattle.isolation.specs.Writers.{Writer, buffers_of, buffer_at, Writes, start_of, len_of, Covers, Apart}
use Rattle.isolation.specs.Writers.Writer.{window, buffer}
use Rattle.holding.proofs.Held.{offered-by}
use Rattle.isolation.proofs.Kept.{picked, lastly-holds}
use Rattle.isolation.proofs.Reachable.{Sound, none-live, slot_lt}
use Rattle.std.specs.Prelude.{Err, None, Ok, Option, Result, Some, ⊤}
use Rattle.ddp.specs.declared.refusal.Refusal.{Refusal}
use Rattle.wire.specs.declared.refusal.LocalRefusal.{LocalRefusal}
use Rattle.wire.specs.declared.refusal.LocalRefusal.TheVariants.{BadPlace, BuffersFull, KeyAgain, OutOfRange, WindowLive, WindowNotLive}
use Rattle.rdmap.specs.declared.stream.Left.{Left}
use Rattle.rdmap.specs.declared.read.ReadRequest.{ReadRequest}
use Rattle.arrival.specs.declared.Answer.{Answer}

-- ---- a byte in common

-- the test by its two comparisons
test_false : (a n b m : ℕ) → shares a n b m ≡ false → a < b + m → b < a + n → ⊥
unfolding shares
test_false a n b m e l r =
    let z : true ≡ false = sym (ap₂ both (lt-ltb a (b + m) l) (lt-ltb b (a + n) r)) ∙ e in
    let no : ◌≡◌ {A = ℕ} 0 1 = cc in omega arith

test_true : (a n b m : ℕ) → shares a n b m ≡ true → (a < b + m) × (b < a + n)
unfolding shares
test_true a n b m e = go (ltb a (b + m)) refl (ltb b (a + n)) refl e
  where
    go : (s : Bool) → ltb a (b + m) ≡ s → (t : Bool) → ltb b (a + n) ≡ t → both s t ≡ true → (a < b + m) × (b < a + n)
    go true p true q e = (ltb-true a (b + m) p, ltb-true b (a + n) q)
    go true p false q e = let no : ◌≡◌ {A = ℕ} 0 1 = cc in absurd (omega arith)
    go false p t q e = let no : ◌≡◌ {A = ℕ} 0 1 = cc in absurd (omega arith)

test_not : (a n b m : ℕ) → ((a < b + m) × (b < a + n) → ⊥) → shares a n b m ≡ false
test_not a n b m f = go (shares a n b m) refl
  where
    go : (t : Bool) → shares a n b m ≡ t → t ≡ false
    go false e = refl
    go true e = absurd (f (test_true a n b m e))

-- where the test of refusal 19 says no, no byte is in both
pub shares_no_byte : (a n b m : ℕ) → shares a n b m ≡ false → (x : ℕ) → Covers a n x → Covers b m x → ⊥
shares_no_byte a n b m e x p q = test_false a n b m e (omega (arith, p.0, q.1)) (omega (arith, q.0, p.1))

-- where it says yes of spans of at least one byte each, some byte is in both
pub shares-a-byte : (a n b m : ℕ) → 1 ≤ n → 1 ≤ m → shares a n b m ≡ true → (x : ℕ) × (Covers a n x × Covers b m x)
shares-a-byte a n b m hn hm e = go (dec_lt a b)
  where
    t : (a < b + m) × (b < a + n)
    t = test_true a n b m e

    go : Dec (a < b) → (x : ℕ) × (Covers a n x × Covers b m x)
    go (yes l) = (b, ((omega (arith, l), t.1), (omega arith, omega (arith, hm))))
    go (no l) = (a, ((omega arith, omega (arith, hn)), (omega (arith, l), t.0)))

shares-sym : (a n b m : ℕ) → shares a n b m ≡ false → shares b m a n ≡ false
shares-sym a n b m e = test_not b m a n (λ z. test_false a n b m e z.1 z.0)

-- ---- two writers
same_writer : (a b : Writer) → Dec (a ≡ b)
same_writer (window i) (window j) = go (dec_eq i j)
  where
    go : Dec (i ≡ j) → Dec (window i ≡ window j)
    go (yes e) = yes (ap window e)
    go (no n) = no (λ e. n cc)
same_writer (window i) (buffer j k) = no (λ e. let no : ◌≡◌ {A = ℕ} 0 1 = cc in omega arith)
same_writer (buffer j k) (window i) = no (λ e. let no : ◌≡◌ {A = ℕ} 0 1 = cc in omega arith)
same_writer (buffer j k) (buffer i l) = go (dec_eq j i) (dec_eq k l)
  where
    go : Dec (j ≡ i) → Dec (k ≡ l) → Dec (buffer j k ≡ buffer i l)
    go (yes e) (yes f) = yes (ap₂ buffer e f)
    go (yes e) (no n) = no (λ q. n cc)
    go (no n) f = no (λ q. n cc)

-- ---- fewer writers, each where it was

-- the buffers that wait are those that waited, but for the first c
abbrev Shifted : Buffers → Buffers → ℕ → Type 0
Shifted bs bs' c = (k : ℕ) → k < bs'.count → (c + k < bs.count) × (get_or bs'.entries k no_buffer ≡ get_or bs.entries (c + k) no_buffer)

record Fewer (d d' : Domain) : Type 0 where
  windows : (i : ℕ) → writable (window_at d'.windows i) ≡ true → window_at d'.windows i ≡ window_at d.windows i
  gone : ℕ → ℕ
  buffers : (j : ℕ) → Shifted (buffers_of d j) (buffers_of d' j) (gone j)

module _ (d d' : Domain) (f : Fewer d d') where
  abbrev earlier : Writer → Writer
  earlier (window i) = window i
  earlier (buffer j k) = buffer j (f.gone j + k)

  earlier-writes : (a : Writer) → Writes d' a → Writes d (earlier a)
  earlier-writes (window i) h = subst (λ (w : Window). writable w ≡ true) (f.windows i h) h
  earlier-writes (buffer j k) h = (f.buffers j k h).0

  earlier-start : (a : Writer) → Writes d' a → start_of d (earlier a) ≡ start_of d' a
  earlier-start (window i) h = ap (λ (w : Window). w.place) (sym (f.windows i h))
  earlier-start (buffer j k) h = ap (λ (b : Buffer). b.start) (sym (f.buffers j k h).1)

  earlier-len : (a : Writer) → Writes d' a → len_of d (earlier a) ≡ len_of d' a
  earlier-len (window i) h = ap (λ (w : Window). w.len) (sym (f.windows i h))
  earlier-len (buffer j k) h = ap (λ (b : Buffer). b.len) (sym (f.buffers j k h).1)

  earlier_other : (a b : Writer) → a ≢ b → earlier a ≢ earlier b
  earlier_other (window i) (window j) n e = n e
  earlier_other (window i) (buffer j k) n e = let no : ◌≡◌ {A = ℕ} 0 1 = cc in omega arith
  earlier_other (buffer j k) (window i) n e = let no : ◌≡◌ {A = ℕ} 0 1 = cc in omega arith
  earlier_other (buffer j k) (buffer i l) n e =
      let p : j ≡ i = cc in
      let q : f.gone j + k ≡ f.gone i + l = cc in
      let g : f.gone j ≡ f.gone i = ap f.gone p in
      n (ap₂ buffer p (omega (arith, q, g)))

  fewer_apart : Apart d → Apart d'
  fewer_apart p a b n ha hb =
      let z = p (earlier a) (earlier b) (earlier_other a b n) (earlier-writes a ha) (earlier-writes b hb) in
      let sa = earlier-start a ha in
      let la = earlier-len a ha in
      let sb = earlier-start b hb in
      let lb = earlier-len b hb in
      cc

-- ---- one more writer, which shares no byte with the others
either-none : (a b : Bool) → either a b ≡ false → (a ≡ false) × (b ≡ false)
either-none false b e = (refl, e)
either-none true b e = let no : ◌≡◌ {A = ℕ} 0 1 = cc in absurd (omega arith)

both-none : (a b : Bool) → both a b ≡ false → a ≡ true → b ≡ false
both-none true b e h = e
both-none false b e h = let no : ◌≡◌ {A = ℕ} 0 1 = cc in absurd (omega arith)

module _ (place len : ℕ) where
  no_window_lem : (ws : List Window) → windows_share ws place len ≡ false → (i : ℕ) → window_shares (window_at ws i) place len ≡ false
  unfolding windows_share window_shares
  no_window_lem [] e i = refl
  no_window_lem (w ∷ ws) e zero = (either-none (window_shares w place len) (windows_share ws place len) e).0
  no_window_lem (w ∷ ws) e (suc i) = no_window_lem ws (either-none (window_shares w place len) (windows_share ws place len) e).1 i

  no_buffer_lem :
      (bs : List Buffer) (n : ℕ) → buffers_share (take n bs) place len ≡ false →
      (k : ℕ) → k < n → shares (get_or bs k no_buffer).start (get_or bs k no_buffer).len place len ≡ false
  unfolding buffers_share
  no_buffer_lem [] n e k h = test_not 0 0 place len (λ z. omega (arith, z.1))
  no_buffer_lem (b ∷ bs) zero e k h = absurd (omega arith)
  no_buffer_lem (b ∷ bs) (suc n) e zero h = (either-none (shares b.start b.len place len) (buffers_share (take n bs) place len) e).0
  no_buffer_lem (b ∷ bs) (suc n) e (suc k) h =
      no_buffer_lem bs n (either-none (shares b.start b.len place len) (buffers_share (take n bs) place len) e).1 k (omega arith)

  no_stream_lem : (ss : List Stream) → streams_share ss place len ≡ false → (j : ℕ) → buffers_share (waiting (get_or ss j no_stream).sends.buffers) place len ≡ false
  unfolding streams_share buffers_share
  no_stream_lem [] e j = refl
  no_stream_lem (s ∷ ss) e zero = (either-none (buffers_share (waiting s.sends.buffers) place len) (streams_share ss place len) e).0
  no_stream_lem (s ∷ ss) e (suc j) = no_stream_lem ss (either-none (buffers_share (waiting s.sends.buffers) place len) (streams_share ss place len) e).1 j

  -- what is not refused with 19 shares no byte with any writer
  pub none-shares :
      (d : Domain) → domain_shares d place len ≡ false →
      (a : Writer) → Writes d a → shares (start_of d a) (len_of d a) place len ≡ false
  unfolding domain_shares window_shares
  none-shares d e (window i) h =
      both-none (writable (window_at d.windows i)) (shares (window_at d.windows i).place (window_at d.windows i).len place len)
      (no_window_lem d.windows (either-none (windows_share d.windows place len) (streams_share d.streams place len) e).0 i) h
  none-shares d e (buffer j k) h =
      no_buffer_lem (buffers_of d j).entries (buffers_of d j).count
      (no_stream_lem d.streams (either-none (windows_share d.windows place len) (streams_share d.streams place len) e).1 j) k h

  -- the writers are those that were there, and one of these len bytes
  record More (d d' : Domain) (new : Writer) : Type 0 where
    start : start_of d' new ≡ place
    many : len_of d' new ≡ len
    others : (a : Writer) → a ≢ new → Writes d' a → Writes d a × ((start_of d a ≡ start_of d' a) × (len_of d a ≡ len_of d' a))

  more_apart : (d d' : Domain) (new : Writer) → More d d' new → domain_shares d place len ≡ false → Apart d → Apart d'
  more_apart d d' new m e p a b n ha hb = go (same_writer a new) (same_writer b new)
    where
      mixed : (c : Writer) → c ≢ new → Writes d' c → shares (start_of d' c) (len_of d' c) (start_of d' new) (len_of d' new) ≡ false
      mixed c q h =
          let o = m.others c q h in
          let z = none-shares d e c o.0 in
          let s = o.1.0 in
          let l = o.1.1 in
          let ns = m.start in
          let nl = m.many in
          cc

      go : Dec (a ≡ new) → Dec (b ≡ new) → shares (start_of d' a) (len_of d' a) (start_of d' b) (len_of d' b) ≡ false
      go (yes x) (yes y) = absurd (n (x ∙ sym y))
      go (yes x) (no y) = let z = shares-sym _ _ _ _ (mixed b y hb) in subst (λ (c : Writer). shares (start_of d' c) (len_of d' c) (start_of d' b) (len_of d' b) ≡ false) (sym x) z
      go (no x) (yes y) = subst (λ (c : Writer). shares (start_of d' a) (len_of d' a) (start_of d' c) (len_of d' c) ≡ false) (sym y) (mixed a x ha)
      go (no x) (no y) =
          let oa = m.others a x ha in
          let ob = m.others b y hb in
          let z = p a b n oa.0 ob.0 in
          let sa = oa.1.0 in
          let la = oa.1.1 in
          let sb = ob.1.0 in
          let lb = ob.1.1 in
          cc

-- ---- a stream exchanged
shifted_same : (bs : Buffers) → Shifted bs bs 0
shifted_same bs k h = (omega (arith, h), ap (λ (i : ℕ). get_or bs.entries i no_buffer) (omega arith))

shifted_none : (bs : Buffers) → Shifted bs no_buffers 0
shifted_none bs k h = absurd (omega (arith, h))

shifted_popped : (bs : Buffers) → bs.count ≤ length bs.entries → Shifted bs (popped_of bs) 1
unfolding popped_of
shifted_popped bs fits = go (eqb bs.count 0) refl
  where
    go : (t : Bool) → eqb bs.count 0 ≡ t → Shifted bs (pick t bs (record { count = bs.count - 1; entries = drop 1 bs.entries ++ (no_buffer ∷ []) })) 1
    go true e k h = absurd (omega (arith, h, eqb-true bs.count 0 e))
    go false e k h = (
      omega (arith, h),
      get_or-append (drop 1 bs.entries) (no_buffer ∷ []) no_buffer k (simp length-drop (omega (arith, h)))
          ∙ get_or-drop 1 bs.entries k no_buffer,
    )

-- the buffers of a stream are those of the other, but for some first ones
abbrev Less : Stream → Stream → Type 0
Less s s' = (c : ℕ) × Shifted s.sends.buffers s'.sends.buffers c

module _ (s : Stream) where
  less_same : Less s s
  less_same = (0, shifted_same s.sends.buffers)

  opened_less : (crc : Bool) → Less s (opened s crc).1
  unfolding opened
  opened_less crc = picked (λ (r : Result ⊤ LocalRefusal × Stream). Less s r.1) (is_closed s.phase) _ _ (λ e. (0, shifted_none s.sends.buffers)) (λ e. less_same)

  closed_less : Less s (closed s).1
  unfolding closed
  closed_less = picked (λ (r : Result Left LocalRefusal × Stream). Less s r.1) (is_closed s.phase) _ _ (λ e. less_same) (λ e. (0, shifted_none s.sends.buffers))

  taken_when_less : (r : Result ⊤ LocalRefusal) → Less s (taken_when s r).1
  taken_when_less (Ok tt) = picked (λ (r : Result ReadRequest LocalRefusal × Stream). Less s r.1) (eqb s.reads.count 0) _ _ (λ e. less_same) (λ e. less_same)
  taken_when_less (Err k) = less_same

  taken_less : Less s (taken_from s).1
  unfolding taken_from
  taken_less = taken_when_less (readiness s.phase)

  module _ (fits : s.sends.buffers.count ≤ length s.sends.buffers.entries) where
    applied_less : (total : ℕ) (v : Result Verdict Refusal) → Less s (parts_applied s total v).stream
    unfolding parts_applied
    applied_less total (Err r) = less_same
    applied_less total (Ok Nothing) = less_same
    applied_less total (Ok (Write at)) = less_same
    applied_less total (Ok (SendMore at opcode taken)) = less_same
    applied_less total (Ok (SendLast at opcode start len inv)) = (1, shifted_popped s.sends.buffers fits)
    applied_less total (Ok (Read r)) = less_same
    applied_less total (Ok (Terminate layer etype code)) = less_same

    answered_less : (j : Judged) → Less s (parts_answered s j).stream
    answered_less (JudgedWait n) = less_same
    answered_less (Fpdu total v) = applied_less total v

    when_less : (ws : List Window) (number : ℕ) (input : List ℕ) (r : Result ⊤ LocalRefusal) → Less s (parts_when ws number s input r).stream
    when_less ws number input (Ok tt) = answered_less (parts_judged ws number s input (segment_read s.framing.crc input))
    when_less ws number input (Err n) = less_same

    received_less : (ws : List Window) (number : ℕ) (input : List ℕ) → Less s (parts_received ws number s input).stream
    unfolding parts_received
    received_less ws number input = when_less ws number input (readiness s.phase)

-- an offer that is judged is so with nothing held
offered_less :
    (s : Stream) → s.sends.buffers.count ≤ length s.sends.buffers.entries → (ws : List Window) (number : ℕ) (held input : List ℕ) →
    Less s (parts_offered ws number s held input).stream
offered_less s fits ws number held input =
    offered-by (λ (r : PartsReceived). Less s r.stream) ws number s held input (λ k o. less_same s) (λ n o w. less_same s) (λ total v o. applied_less (holding s 0) fits total v)

-- put in its slot
module _ (d : Domain) (k : Sound d) (slot : ℕ) (h : slot < 4) (s : Stream) where
  stream-same : stream_at (with_stream d slot s) slot ≡ s
  stream-same = get_or-set_same d.streams slot s no_stream (omega (arith, k.four))

  stream_other : (j : ℕ) → (j ≡ slot → ⊥) → stream_at (with_stream d slot s) j ≡ stream_at d j
  stream_other j n = get_or-set_other d.streams slot j s no_stream n

  stream_fewer : Less (stream_at d slot) s → Fewer d (with_stream d slot s)
  stream_fewer l = record {
    windows = λ i e. refl;
    gone = λ j. by (dec_eq j slot);
    buffers = λ j. go j (dec_eq j slot);
  }
    where
      by : {j : ℕ} → Dec (j ≡ slot) → ℕ
      by (yes e) = l.0
      by (no n) = 0

      go : (j : ℕ) (x : Dec (j ≡ slot)) → Shifted (buffers_of d j) (buffers_of (with_stream d slot s) j) (by x)
      go j (yes e) =
          subst (λ (i : ℕ). Shifted (buffers_of d i) (buffers_of (with_stream d slot s) i) l.0) (sym e)
          (subst (λ (x : Stream). Shifted (buffers_of d slot) x.sends.buffers l.0) (sym stream-same) l.1)
      go j (no n) = subst (λ (x : Stream). Shifted (buffers_of d j) x.sends.buffers 0) (sym (stream_other j n)) (shifted_same (buffers_of d j))

-- ---- the windows exchanged
windows_fewer :
    (d : Domain) (ws : List Window) →
    ((i : ℕ) → writable (window_at ws i) ≡ true → window_at ws i ≡ window_at d.windows i) → Fewer d (with_windows d ws)
windows_fewer d ws f = record { windows = f; gone = λ j. 0; buffers = λ j. shifted_same (buffers_of d j) }

-- one of them, by one that is as it was or does not write
set_fewer :
    (d : Domain) (slot : ℕ) (w : Window) → (writable w ≡ true → w ≡ window_at d.windows slot) →
    Fewer d (with_windows d (set d.windows slot w))
set_fewer d slot w f = windows_fewer d (set d.windows slot w) (λ i. go i (dec_lt slot (length d.windows)) (dec_eq i slot))
  where
    Kept : ℕ → Window → Type 0
    Kept i x = writable x ≡ true → x ≡ window_at d.windows i

    go : (i : ℕ) → Dec (slot < length d.windows) → Dec (i ≡ slot) → Kept i (window_at (set d.windows slot w) i)
    go i (no h) e = subst (λ (l : List Window). Kept i (window_at l i)) (sym (set_out d.windows slot w (omega arith))) (λ q. refl)
    go i (yes h) (no e) = subst (Kept i) (sym (get_or-set_other d.windows slot i w no_window e)) (λ q. refl)
    go i (yes h) (yes e) =
        subst (λ (n : ℕ). Kept n (window_at (set d.windows slot w) n)) (sym e)
        (subst (Kept slot) (sym (get_or-set_same d.windows slot w no_window h)) f)

dropped_fewer : (d : Domain) (slot : ℕ) → Fewer d (with_windows d (dropped d.windows slot).1)
unfolding dropped dropped_in
dropped_fewer d slot = go (leb slot 15) (window_at d.windows slot).live
  where
    w : Window
    w = window_at d.windows slot

    go :
        (s t : Bool) →
        Fewer d
        (with_windows d
        (pick s (entering d.windows slot (pick {A = (Result ⊤ LocalRefusal × Window)} t (Ok tt, dead_of w) (keeping w WindowNotLive))) (refusing d.windows OutOfRange)
        ).1)
    go false t = windows_fewer d d.windows (λ i e. refl)
    go true false = set_fewer d slot w (λ e. refl)
    go true true = set_fewer d slot (dead_of w) (λ e. let no : ◌≡◌ {A = ℕ} 0 1 = cc in absurd (omega arith))

killed_fewer : (d : Domain) (inv : Option (ℕ × ℕ)) → Fewer d (with_windows d (killed inv d.windows))
killed_fewer d None = windows_fewer d d.windows (λ i e. refl)
killed_fewer d (Some (i, stag)) = dropped_fewer d i

-- a meter is no writer
meter_fewer : (d : Domain) (m : Meter) → Fewer d (with_meter d m)
meter_fewer d m = record { windows = λ i e. refl; gone = λ j. 0; buffers = λ j. shifted_same (buffers_of d j) }

-- ---- registering, by its tests
abbrev live_of : ℕ → ℕ → ℕ → ℕ → ℕ → Window
live_of key base len place rights = record { live = true; key = key; rights = rights; place = place; len = len; base = base }

registered-by :
    (P : (Result ⊤ LocalRefusal × Window) → Type 0) (w : Window) (p : Part) (key base len place rights : ℕ) →
    ((n : LocalRefusal) → P (keeping w n)) → P (Ok tt, live_of key base len place rights) →
    P (registered_in w p key base len place rights)
unfolding registered_in
registered-by P w p key base len place rights refused done = go (in_range key rights) w.live (eqb key w.key) (window_fits p place base len)
  where
    go :
        (a b c d : Bool) →
        P (pick a (pick b (keeping w WindowLive) (pick c (keeping w KeyAgain) (pick d (Ok tt, live_of key base len place rights) (keeping w BadPlace)))) (keeping w OutOfRange))
    go false b c d = refused OutOfRange
    go true true c d = refused WindowLive
    go true false true d = refused KeyAgain
    go true false false false = refused BadPlace
    go true false false true = done

-- a window in a slot, which writes and shares no byte
window_more :
    (d : Domain) (slot : ℕ) (w : Window) → slot < length d.windows →
    More w.place w.len d (with_windows d (set d.windows slot w)) (window slot)
window_more d slot w h = record {
  start = ap (λ (x : Window). x.place) (get_or-set_same d.windows slot w no_window h);
  many = ap (λ (x : Window). x.len) (get_or-set_same d.windows slot w no_window h);
  others = go;
}
  where
    Kept : Window → Window → Type 0
    Kept x y = writable y ≡ true → (writable x ≡ true) × ((x.place ≡ y.place) × (x.len ≡ y.len))

    go :
        (a : Writer) → a ≢ window slot → Writes (with_windows d (set d.windows slot w)) a →
        Writes d a × ((start_of d a ≡ start_of (with_windows d (set d.windows slot w)) a) × (len_of d a ≡ len_of (with_windows d (set d.windows slot w)) a))
    go (buffer j k) n e = (e, (refl, refl))
    go (window i) n e =
        subst (Kept (window_at d.windows i)) (sym (get_or-set_other d.windows slot i w no_window (λ q. n (ap window q)))) (λ q. (q, (refl, refl))) e

registered-window :
    (d : Domain) (slot key base len place rights : ℕ) → both (writes rights) (domain_shares d place len) ≡ false → Apart d →
    Apart (with_windows d (set d.windows slot (live_of key base len place rights)))
registered-window d slot key base len place rights e p = go (writes rights) refl (dec_lt slot (length d.windows))
  where
    w : Window
    w = live_of key base len place rights

    go : (t : Bool) → writes rights ≡ t → Dec (slot < length d.windows) → Apart (with_windows d (set d.windows slot w))
    go false f h = fewer_apart d _ (set_fewer d slot w (λ q. let no : ◌≡◌ {A = ℕ} 0 1 = cc in absurd (omega arith))) p
    go true f (no h) =
        subst (λ (l : List Window). Apart (with_windows d l)) (sym (set_out d.windows slot w (omega arith))) (fewer_apart d _ (windows_fewer d d.windows (λ i q. refl)) p)
    go true f (yes h) = more_apart place len d _ (window slot) (window_more d slot w h) (both-none (writes rights) (domain_shares d place len) e f) p

-- ---- posting, by its tests
posted-by :
    (P : (Result ⊤ LocalRefusal × Buffers) → Type 0) (bs : Buffers) (p : Part) (start len : ℕ) →
    ((n : LocalRefusal) → P (Err n, bs)) →
    (bs.count < 8 → P (Ok tt, appended bs (record { start = start; len = len }))) →
    P (posted bs p start len)
unfolding posted
posted-by P bs p start len refused done = go (in_part p start len) (ltb bs.count 8) refl
  where
    go :
        (a b : Bool) → ltb bs.count 8 ≡ b →
        P
        (pick a
        (pick b (Ok tt, appended bs (record { start = start; len = len })) (Err BuffersFull, bs))
        (Err BadPlace, bs))
    go false b e = refused BadPlace
    go true false e = refused BuffersFull
    go true true e = done (ltb-true bs.count 8 e)

posted_on_by :
    (P : (Result ⊤ LocalRefusal × Stream) → Type 0) (s : Stream) (p : Part) (start len : ℕ) →
    ((n : LocalRefusal) → P (Err n, s)) →
    ((s' : Stream) → s'.sends.buffers ≡ appended s.sends.buffers (record { start = start; len = len }) → s.sends.buffers.count < 8 → P (Ok tt, s')) →
    P (posted_on s p start len)
unfolding posted_on
posted_on_by P s p start len refused done = go (readiness s.phase)
  where
    entered : (Result ⊤ LocalRefusal × Buffers) → (Result ⊤ LocalRefusal × Stream)
    entered x = (x.0, with_sends s (record { msn = s.sends.msn; opcode = s.sends.opcode; taken = s.sends.taken; buffers = x.1 }))

    go : (r : Result ⊤ LocalRefusal) → P (posted_when s p start len r)
    go (Ok tt) = posted-by (λ x. P (entered x)) s.sends.buffers p start len refused (λ h. done _ refl h)
    go (Err k) = refused k

-- one more buffer at the end of a stream's
buffer_more :
    (d : Domain) → Sound d → (slot : ℕ) → slot < 4 → (start len : ℕ) (s : Stream) →
    s.sends.buffers ≡ appended (buffers_of d slot) (record { start = start; len = len }) → (buffers_of d slot).count < 8 →
    More start len d (with_stream d slot s) (buffer slot (buffers_of d slot).count)
buffer_more d sound slot h start len s e room = record {
  start = ap (λ (b : Buffer). b.start) last;
  many = ap (λ (b : Buffer). b.len) last;
  others = go;
}
  where
    d' : Domain
    d' = with_stream d slot s

    bs : Buffers
    bs = buffers_of d slot

    new : Buffer
    new = record { start = start; len = len }

    now : buffers_of d' slot ≡ appended bs new
    now = ap (λ (x : Stream). x.sends.buffers) (stream-same d sound slot h s) ∙ e

    last : buffer_at d' slot bs.count ≡ new
    last =
        ap (λ (x : Buffers). get_or x.entries bs.count no_buffer) now
        ∙ get_or-set_same bs.entries bs.count new no_buffer (omega (arith, room, (sound.waiting slot h).long))

    Kept : Writer → Type 0
    Kept a = Writes d a × ((start_of d a ≡ start_of d' a) × (len_of d a ≡ len_of d' a))

    there : (j k : ℕ) → Writes d (buffer j k) → buffer_at d' j k ≡ buffer_at d j k → Kept (buffer j k)
    there j k w q = (w, (ap (λ (b : Buffer). b.start) (sym q), ap (λ (b : Buffer). b.len) (sym q)))

    go : (a : Writer) → a ≢ buffer slot bs.count → Writes d' a → Kept a
    go (window i) n w = (w, (refl, refl))
    go (buffer j k) n w = one (dec_eq j slot)
      where
        one : Dec (j ≡ slot) → Kept (buffer j k)
        one (no q) =
            let z = ap (λ (x : Stream). x.sends.buffers) (stream_other d sound slot h s j q) in
            there j k (subst (λ (x : Buffers). k < x.count) z w) (ap (λ (x : Buffers). get_or x.entries k no_buffer) z)
        one (yes q) = subst (λ (i : ℕ). Kept (buffer i k)) (sym q) (mine (subst (λ (i : ℕ). k < (buffers_of d' i).count) q w) (λ f. n (ap₂ buffer q f)))
          where
            mine : k < (buffers_of d' slot).count → (k ≡ bs.count → ⊥) → Kept (buffer slot k)
            mine w n =
                let c : k < bs.count + 1 = subst (λ (x : Buffers). k < x.count) now w in
                there slot k (omega (arith, c, n))
                (ap (λ (x : Buffers). get_or x.entries k no_buffer) now ∙ get_or-set_other bs.entries bs.count k new no_buffer n)

-- ---- each step of a domain keeps its writers apart
module _ (d : Domain) (k : Sound d) (p : Apart d) where
  stream_apart : (slot : ℕ) → slot < 4 → (s : Stream) → Less (stream_at d slot) s → Apart (with_stream d slot s)
  stream_apart slot h s l = fewer_apart d _ (stream_fewer d k slot h s l) p

  -- opening leaves fewer
  pub opened_apart : (slot : ℕ) (crc : Bool) → Apart (domain_opened d slot crc).1
  unfolding domain_opened
  opened_apart slot crc = picked (λ (r : Result ⊤ LocalRefusal × Domain). Apart r.1) (leb slot 3) _ _ (λ e. stream_apart slot (slot_lt slot e) _ (opened_less (stream_at d slot) crc)) (λ e. p)

  -- and closing
  pub closed_apart : (slot : ℕ) → Apart (domain_closed d slot).1
  unfolding domain_closed
  closed_apart slot = picked (λ (r : Result Left LocalRefusal × Domain). Apart r.1) (leb slot 3) _ _ (λ e. stream_apart slot (slot_lt slot e) _ (closed_less (stream_at d slot))) (λ e. p)

  -- and taking a read
  pub taken_apart : (slot : ℕ) → Apart (domain_taken d slot).1
  unfolding domain_taken
  taken_apart slot = picked (λ (r : Result ReadRequest LocalRefusal × Domain). Apart r.1) (leb slot 3) _ _ (λ e. stream_apart slot (slot_lt slot e) _ (taken_less (stream_at d slot))) (λ e. p)

  -- and dropping a window
  pub dropped_apart : (slot : ℕ) → Apart (domain_dropped d slot).1
  unfolding domain_dropped
  dropped_apart slot = fewer_apart d _ (dropped_fewer d slot) p

  -- and a tick
  pub ticked_apart : Apart (domain_ticked d)
  ticked_apart = fewer_apart d _ (meter_fewer d (ticked_meter d.meter)) p

  -- and receiving, at once or by offers: a buffer is used, a window invalidated
  lifted_apart : (slot : ℕ) (x : Result SegmentRead Refusal) (r : PartsReceived) → slot < 4 → Less (stream_at d slot) r.stream → Apart (metered_of x (lifted d slot r)).1
  lifted_apart slot x r h l =
      let s : Domain = with_stream d slot r.stream in
      let t : Domain = (lifted d slot r).1 in
      fewer_apart t _ (meter_fewer t (meter_by r.answer (segment_count x) d.meter)) (fewer_apart s _ (killed_fewer s r.invalidate) (stream_apart slot h r.stream l))

  few : (slot : ℕ) → slot < 4 → (buffers_of d slot).count ≤ length (buffers_of d slot).entries
  few slot h = omega (arith, (k.waiting slot h).few, (k.waiting slot h).long)

  pub received_apart : (number slot : ℕ) (input : List ℕ) → Apart (domain_receives d number slot input).1
  unfolding domain_receives domain_received
  received_apart number slot input =
      let r = parts_received d.windows number (stream_at d slot) input in
      let seg = segment_read (stream_at d slot).framing.crc input in
      picked (λ (x : Result Answer LocalRefusal × Domain). Apart x.1) (holds_at d slot) _ _ (λ e. p)
      (λ q. picked (λ (x : Result Answer LocalRefusal × Domain). Apart x.1) (leb slot 3) (metered_of seg (lifted d slot r)) _
      (λ e. let h = slot_lt slot e in lifted_apart slot seg r h (received_less (stream_at d slot) (few slot h) d.windows number input)) (λ e. p))

  pub offered_apart : (number slot : ℕ) (held input : List ℕ) → Apart (domain_offered d number slot held input).1
  unfolding domain_offered
  offered_apart number slot held input =
      let r = parts_offered d.windows number (stream_at d slot) held input in
      let seg = segment_read (stream_at d slot).framing.crc (held ++ input) in
      picked (λ (x : Result Answer LocalRefusal × Domain). Apart x.1) (leb slot 3) (metered_of seg (lifted d slot r)) _
      (λ e. let h = slot_lt slot e in lifted_apart slot seg r h (offered_less (stream_at d slot) (few slot h) d.windows number held input)) (λ e. p)

  -- a window with the write right that shares a byte with a writer is refused, so what is registered shares none
  pub registered_apart : (slot key base len place rights : ℕ) → Apart (domain_registered d slot key base len place rights).1
  unfolding domain_registered registered
  registered_apart slot key base len place rights = go (leb slot 15)
    where
      shared : Bool
      shared = both (writes rights) (domain_shares d place len)

      kept : (n : LocalRefusal) (ws : List Window) → Apart (with_windows d ws) → Apart (lastly shared d (Err n, with_windows d ws)).1
      kept n ws z = lastly-holds Apart shared d _ p (λ e f. z) (λ m e. z)

      go :
          (t : Bool) →
          let r = pick t (entering d.windows slot (registered_in (window_at d.windows slot) d.part key base len place rights)) (refusing d.windows OutOfRange) in
          Apart (lastly shared d (r.0, with_windows d r.1)).1
      go false = kept OutOfRange d.windows (fewer_apart d _ (windows_fewer d d.windows (λ i e. refl)) p)
      go true =
          registered-by (λ r. Apart (lastly shared d (r.0, with_windows d (set d.windows slot r.1))).1)
          (window_at d.windows slot) d.part key base len place rights
          (λ n. kept n _ (fewer_apart d _ (set_fewer d slot (window_at d.windows slot) (λ e. refl)) p))
          (lastly-holds Apart shared d _ p
          (λ e f. registered-window d slot key base len place rights f p) (λ n e. let no : ◌≡◌ {A = ℕ} 0 1 = cc in absurd (omega arith)))

  -- a buffer that shares a byte with a writer is refused, so what is posted shares none
  pub posted_apart : (slot start len : ℕ) → Apart (domain_posted d slot start len).1
  unfolding domain_posted
  posted_apart slot start len =
      picked (λ (r : Result ⊤ LocalRefusal × Domain). Apart r.1) (leb slot 3) _ _
      (λ e. let h = slot_lt slot e in
      posted_on_by (λ r. Apart (lastly (domain_shares d start len) d (r.0, with_stream d slot r.1)).1)
      (stream_at d slot) d.part start len
      (λ n. let z = stream_apart slot h (stream_at d slot) (less_same (stream_at d slot)) in lastly-holds Apart (domain_shares d start len) d _ p (λ q f. z) (λ m q. z))
      (λ s q room. lastly-holds Apart (domain_shares d start len) d _ p
      (λ e f. more_apart start len d _ _ (buffer_more d k slot h start len s q room) f p) (λ n e. let no : ◌≡◌ {A = ℕ} 0 1 = cc in absurd (omega arith))))
      (λ e. p)

-- ---- a new domain has no writer
no_buffer_yet : (n j : ℕ) → (get_or (replicate n closed_stream) j no_stream).sends.buffers.count ≡ 0
no_buffer_yet zero j = refl
no_buffer_yet (suc n) zero = refl
no_buffer_yet (suc n) (suc j) = no_buffer_yet n j

-- so in a new domain nothing is shared
pub new_apart : (start end : ℕ) → Apart (new_domain start end)
new_apart start end a b n ha hb = absurd (none a ha)
  where
    none : (a : Writer) → Writes (new_domain start end) a → ⊥
    none (window i) h =
        let q : false ≡ true = sym (ap writable (none-live 16 i)) ∙ h in
        let no : ◌≡◌ {A = ℕ} 0 1 = cc in
        omega arith
    none (buffer j k) h = omega (arith, h, no_buffer_yet 4 j)
