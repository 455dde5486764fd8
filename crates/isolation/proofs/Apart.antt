-- What refusal 19 buys, over runs: in every state that a run reaches no two writers of a domain share a byte (`never_shared`); what a
-- call changes in a part is a byte of the one writer that it fills (`changed_is-filled`), and so of no other (`placed_apart`).
use Prim.Native.Nat.{ℕ, ◌+◌, ◌-◌, ◌/◌, ◌%◌, ◌≤◌, ◌<◌}
use mathlib.Core.Logic.{◌≢◌}
use mathlib.Core.Path.{◌≡◌, refl, sym, ap, ap₂, subst, ◌∙◌}
use mathlib.Core.Bool.{Bool, true, false}
use mathlib.Core.List.{List, ◌++◌}
use native.Mathlib.Omega.{arith}
use native.Mathlib.Decide.{dec_lt, ℕ_discrete as dec_eq}
use lib.ListN.{length, get_or, take, drop, get_or-append, get_or-eq_default}
use lib.Seq.{get_or-drop, get_or-take, get_or-append-add, length-take-le}
use lib.Dec.{leb, eqb}
use borrow.Author.Tests.{le-leb, lt-leb}
use borrow.Rule.Slice.PartMut.{mid_of, mid_len}
use Rattle.wire.specs.Wire.{pick, both, part, put}
use Rattle.wire.proofs.Laws.{length_part}
use Rattle.memory.specs.Window.{window_at, slot_named}
use Rattle.memory.specs.declared.part.Part.{Part}
use Rattle.memory.specs.declared.window.Window.{Window}
use Rattle.memory.proofs.Inside.{Lies}
use Rattle.memory.proofs.Laws.{both_left}
use Rattle.ddp.specs.Segment.{segment_read}
use Rattle.ddp.specs.Tagged.{tagged_of}
use Rattle.ddp.specs.Untagged.{untagged_of}
use Rattle.ddp.specs.declared.segment.SegmentRead.{SegmentRead}
use Rattle.ddp.specs.declared.segment.SegmentRead.TheVariants.{Wait, Tagged as TaggedSegment, Untagged as UntaggedSegment}
use Rattle.ddp.proofs.Inside.{tagged_in_lem}
use Rattle.rdmap.specs.Message.{may_write, stag_named, queue_of}
use Rattle.rdmap.specs.Phase.{readiness}
use Rattle.rdmap.specs.declared.message.Verdict.{Verdict}
use Rattle.rdmap.specs.declared.message.Verdict.TheVariants.{Nothing, Write, SendMore, SendLast, Read, Terminate}
use Rattle.rdmap.specs.declared.stream.Stream.{Stream}
use Rattle.rdmap.specs.Stream.{no_stream}
use Rattle.domain.specs.Domain.{stream_at, domain_received_bytes}
use Rattle.arrival.specs.Parts.{tagged_verdict, parts_verdict, parts_bytes_when, parts_received_bytes}
use Rattle.domain.specs.declared.Domain.{Domain}
use Rattle.arrival.proofs.Inside.{inside}
use Rattle.rnic.specs.Rnic.{domain_at, bytes_of}
use Rattle.rnic.specs.declared.Rnic.{Rnic}
use Rattle.rnic.specs.Offer.{rooms_bytes, held_bytes}
use Rattle.holding.specs.Offer.{holds_at, domain_receives_bytes, domain_offered_bytes}
use Rattle.isolation.specs.Book.{Call, Answer, View, Observation, Opening, of_stream, owner_in, book_receive, book_offer, book, part_start, part_end}
use Rattle.isolation.specs.Book.Call.{open_stream, close_stream, register, drop_window, post, receive, offer, take_read, live, free, tick, read_gauge, ask_state}
use Rattle.isolation.specs.Writers.{Writer, buffer_at, Writes, start_of, len_of, Has, Apart, target, receiver, Fills}
use Rattle.isolation.specs.Writers.Writer.{window, buffer}
use Rattle.isolation.proofs.Calls.{World, Step, Opened, view}
use Rattle.isolation.proofs.Runs.{Interface, Run}
use Rattle.holding.proofs.Held.{offered-bytes}
use Rattle.isolation.proofs.Induction.{run_fit}
use Rattle.isolation.proofs.Invariants.{reached}
use Rattle.isolation.proofs.Kept.{picked, opened_keeps, closed_keeps, posted_keeps, taken_keeps, registered_keeps, dropped_keeps, ticked_keeps, received_keeps, offered-part}
use Rattle.isolation.proofs.Offers.{held-is}
use Rattle.isolation.proofs.Openings.{opened_fit}
use Rattle.isolation.proofs.Reachable.{Sound, Placing, Lands, ruled, payload_of, new_sound, book_sound, reached_sound, write-lands, untagged_lands, judged_lands, placed_where_judged}
use Rattle.isolation.proofs.Steps.{own, alien}
use Rattle.isolation.proofs.WellFormed.{Fit}
use Rattle.isolation.proofs.Writers.{shares_no_byte, opened_apart, closed_apart, taken_apart, dropped_apart, ticked_apart, received_apart, offered_apart, registered_apart, posted_apart, new_apart}
use Rattle.std.specs.Prelude.{Err, Ok, Result, Some, ⊤}
use Rattle.ddp.specs.declared.refusal.Refusal.{Refusal}
use Rattle.wire.specs.declared.refusal.LocalRefusal.{LocalRefusal}

-- ---- over a run
book_apart : (A : ℕ) (v : View) → Sound v.dom → Apart v.dom → (c : Call) → Apart (book A v c).after.dom
book_apart A v k p (open_stream n crc) = opened_apart v.dom k p (n % 4) crc
book_apart A v k p (close_stream n) = closed_apart v.dom k p (n % 4)
book_apart A v k p (register w key base len place rights) = registered_apart v.dom k p (w % 16) key base len place rights
book_apart A v k p (drop_window w) = dropped_apart v.dom k p (w % 16)
book_apart A v k p (post n start len) = posted_apart v.dom k p (n % 4) start len
book_apart A v k p (receive n input size) =
    picked (λ (o : Observation Answer). Apart o.after.dom) (eqb size v.size) (book_receive A v n input) _ (λ e. received_apart v.dom k p A (n % 4) input) (λ e. p)
book_apart A v k p (offer n input size many) =
    picked (λ (o : Observation Answer). Apart o.after.dom) (both (eqb size v.size) (eqb many rooms_bytes)) (book_offer A v n input) _
    (λ e. offered_apart v.dom k p A (n % 4) (v.held (n % 4)) input) (λ e. p)
book_apart A v k p (take_read n) = taken_apart v.dom k p (n % 4)
book_apart A v k p (live d) = p
book_apart A v k p (free d) = p
book_apart A v k p (tick d) = ticked_apart v.dom k p
book_apart A v k p (read_gauge d) = p
book_apart A v k p (ask_state n) = p

-- the writers of a domain lie in its part, and apart
record Placed (v : View) : Type 0 where
  sound : Sound v.dom
  apart : Apart v.dom

-- no byte of a domain is in two of its writers, and each lies in the domain's part
pub record NoneShared (d : Domain) : Type 0 where
  pub sound : Sound d
  pub apart : Apart d
  pub no_byte : (a b : Writer) → a ≢ b → Writes d a → Writes d b → (x : ℕ) → Has d a x → Has d b x → ⊥

-- in every world that a run from an opening reaches, no two write windows, no two waiting buffers and no such pair of a domain share a byte
pub never_shared :
    (o : Opening) (mem rooms : List ℕ) {I : Interface} {w w₁ : World} {cs : List I.Request} → Opened o mem rooms w → Run I w cs w₁ →
    (A : ℕ) → A < 4 → NoneShared (domain_at w₁.dev A)
never_shared o mem rooms s r A h_a =
    let p =
    reached Placed A (λ v c k. record { sound = book_sound A v k.sound c; apart = book_apart A v k.sound k.apart c }) o mem rooms s r h_a
    (record { sound = new_sound (part_start A o) (part_end A o); apart = new_apart (part_start A o) (part_end A o) })
    in
    record {
      sound = p.sound;
      apart = p.apart;
      no_byte = λ a b n ha hb. shares_no_byte _ _ _ _ (p.apart a b n ha hb);
    }

-- ---- what it buys: where a payload goes

-- n bytes from a place lie in a writer
abbrev Into : Domain → Writer → ℕ → ℕ → Type 0
Into d a n at = Writes d a × ((start_of d a ≤ at) × (at + n ≤ start_of d a + len_of d a))

-- a payload that is judged to go through a window goes into it, and the window is live
tagged_live : (w : Window) (number stag to n at : ℕ) → tagged_of w number stag to n ≡ Ok (Some at) → w.live ≡ true
tagged_live w number stag to n at q = go w.live refl
  where
    go : (t : Bool) → w.live ≡ t → t ≡ true
    go true e = refl
    go false e =
        let z = tagged_in_lem (record { start = 1; end = 0 }) w number stag to n at (λ l. let no : ◌≡◌ {A = ℕ} 0 1 = cc in absurd (omega arith)) q in
        absurd (omega (arith, z.0, z.1))

tagged_inside : (w : Window) (number stag to n at : ℕ) → tagged_of w number stag to n ≡ Ok (Some at) → (w.place ≤ at) × (at + n ≤ w.place + w.len)
tagged_inside w number stag to n at q = tagged_in_lem (record { start = w.place; end = w.place + w.len }) w number stag to n at (λ l. (omega arith, omega arith)) q

module _ (d : Domain) (number slot : ℕ) (input : List ℕ) where
  -- what a segment is judged to place goes into the writer that it is for
  judged_into :
      (s : Result SegmentRead Refusal) → s ≡ segment_read (stream_at d slot).framing.crc input →
      Placing (Into d (target slot s) (length (payload_of input s))) (parts_verdict d.windows number (stream_at d slot) input s)
  judged_into (Ok (Wait n)) e = tt
  judged_into (Err r) e = tt
  judged_into (Ok (TaggedSegment total t start len)) e =
      let i = slot_named t.stag in
      let w = window_at d.windows i in
      subst (λ (n : ℕ). Placing (Into d (window i) n) (tagged_verdict w number t len))
      (sym (length_part input start len (inside (stream_at d slot).framing.crc input (Ok (TaggedSegment total t start len)) e)))
      (write-lands (Into d (window i) len) w number t.stag t.to t.control len
      (λ at q m. (ap₂ both (tagged_live w number t.stag t.to len at q) m, tagged_inside w number t.stag t.to len at q))
      (tagged_of w number t.stag t.to len) refl)
  judged_into (Ok (UntaggedSegment total t start len)) e =
      let n = length (part input start len) in
      untagged_lands (Into d (buffer slot 0) n) (window_at d.windows (slot_named (stag_named t (part input start len)))) number (stream_at d slot) t (part input start len) n
      (λ at c f. (c, (omega arith, omega (arith, f))))
      (untagged_of (queue_of (stream_at d slot) t.qn) t.qn t.msn t.mo n) refl

-- bytes put at a place change none before it and none after them
put-before : (l : List ℕ) (at : ℕ) (xs : List ℕ) (x : ℕ) → at ≤ length l → x < at → get_or (put l at xs) x 0 ≡ get_or l x 0
put-before l at xs x h b =
    get_or-append (take at l) (xs ++ drop (at + length xs) l) 0 x (omega (arith, b, length-take-le at l h)) ∙ get_or-take at l x 0 b

put-after : (l : List ℕ) (at : ℕ) (xs : List ℕ) (x : ℕ) → at ≤ length l → at + length xs ≤ x → get_or (put l at xs) x 0 ≡ get_or l x 0
put-after l at xs x h b =
    let m = x - (at + length xs) in
    ap (λ (i : ℕ). get_or (put l at xs) i 0) (let e : x ≡ length (take at l) + (length xs + m) = omega (arith, b, length-take-le at l h) in e)
    ∙ get_or-append-add (take at l) (xs ++ drop (at + length xs) l) (length xs + m) 0
    ∙ get_or-append-add xs (drop (at + length xs) l) m 0
    ∙ get_or-drop (at + length xs) l m 0
    ∙ ap (λ (i : ℕ). get_or l i 0) (let e : at + length xs + m ≡ x = omega (arith, b) in e)

module _ (d : Domain) (t : Writer) (payload bytes : List ℕ) (long : length bytes ≡ d.part.end - d.part.start) (x : ℕ) where
  put_in :
      (at : ℕ) → Lies d.part at (length payload) → Into d t (length payload) at →
      (get_or (put bytes (at - d.part.start) payload) x 0 ≡ get_or bytes x 0 → ⊥) → Writes d t × Has d t (d.part.start + x)
  put_in at l i c = go (dec_lt x (at - d.part.start)) (dec_lt x (at - d.part.start + length payload))
    where
      fits : at - d.part.start ≤ length bytes
      fits = omega (arith, long, l.0, l.1)

      go : Dec (x < at - d.part.start) → Dec (x < at - d.part.start + length payload) → Writes d t × Has d t (d.part.start + x)
      go (yes b) e = absurd (c (put-before bytes (at - d.part.start) payload x fits b))
      go (no b) (no e) = absurd (c (put-after bytes (at - d.part.start) payload x fits (omega (arith, e))))
      go (no b) (yes e) = (i.0, (omega (arith, b, l.0, i.1.0), omega (arith, e, l.0, i.1.1)))

  ruled_in :
      (v : Result Verdict Refusal) → Lands d.part v (length payload) → Placing (Into d t (length payload)) v →
      (get_or (ruled d.part.start v payload bytes) x 0 ≡ get_or bytes x 0 → ⊥) → Writes d t × Has d t (d.part.start + x)
  ruled_in (Err r) l i c = absurd (c refl)
  ruled_in (Ok Nothing) l i c = absurd (c refl)
  ruled_in (Ok (Write at)) l i c = put_in at l i c
  ruled_in (Ok (SendMore at opcode taken)) l i c = put_in at l i c
  ruled_in (Ok (SendLast at opcode start len inv)) l i c = put_in at l i c
  ruled_in (Ok (Read r)) l i c = absurd (c refl)
  ruled_in (Ok (Terminate layer etype code)) l i c = absurd (c refl)

-- a writer lies in its domain's part
writer_lies : (d : Domain) → Sound d → (a : Writer) → Writes d a → Lies d.part (start_of d a) (len_of d a)
writer_lies d k (window i) h = k.windowed i (both_left (window_at d.windows i).live (may_write (window_at d.windows i)) h)
writer_lies d k (buffer j l) h = go (dec_lt j 4)
  where
    go : Dec (j < 4) → Lies d.part (buffer_at d j l).start (buffer_at d j l).len
    go (yes b) = (k.waiting j b).inside l h
    go (no b) =
        let e : stream_at d j ≡ no_stream = get_or-eq_default d.streams no_stream (omega (arith, b, k.four)) in
        let c : l < 0 = subst (λ (s : Stream). l < s.sends.buffers.count) e h in
        absurd (omega (arith, c))

module _ (d : Domain) (k : Sound d) (number slot : ℕ) (input bytes : List ℕ) (long : length bytes ≡ d.part.end - d.part.start) where
  -- each byte of the part that a receive changes lies in one writer: the window that the STag names, or the buffer in fill
  pub changed_in_receiver :
      (x : ℕ) → (get_or (domain_received_bytes d number slot input bytes) x 0 ≡ get_or bytes x 0 → ⊥) →
      Writes d (receiver d slot input) × Has d (receiver d slot input) (d.part.start + x)
  unfolding domain_received_bytes parts_received_bytes
  changed_in_receiver x c = go (dec_lt slot 4) (readiness (stream_at d slot).phase) refl
    where
      seg : Result SegmentRead Refusal
      seg = segment_read (stream_at d slot).framing.crc input

      go :
          Dec (slot < 4) → (r : Result ⊤ LocalRefusal) → readiness (stream_at d slot).phase ≡ r →
          Writes d (receiver d slot input) × Has d (receiver d slot input) (d.part.start + x)
      go (no h) r e =
          absurd (c (ap (λ (t : Bool). get_or (pick t (parts_received_bytes d.part d.windows number (stream_at d slot) input bytes) bytes) x 0) (lt-leb slot 3 (omega (arith, h)))))
      go (yes h) (Err n) e =
          absurd
          (c
          (ap (λ (t : Bool). get_or (pick t (parts_received_bytes d.part d.windows number (stream_at d slot) input bytes) bytes) x 0) (le-leb slot 3 (omega (arith, h)))
          ∙ ap (λ (r : Result ⊤ LocalRefusal). get_or (parts_bytes_when d.part d.windows number (stream_at d slot) input bytes r) x 0) e))
      go (yes h) (Ok tt) e =
          ruled_in d (receiver d slot input) (payload_of input seg) bytes long x (parts_verdict d.windows number (stream_at d slot) input seg)
          (judged_lands d k number slot h input seg refl) (judged_into d number slot input seg refl)
          (λ q. c (ap (λ (l : List ℕ). get_or l x 0) (placed_where_judged d k number slot h input bytes long e) ∙ q))

  -- so a receive leaves each byte of every other write window and of every other waiting buffer of the domain
  pub others-kept :
      Apart d → (a : Writer) → a ≢ receiver d slot input → Writes d a → (x : ℕ) → Has d a x →
      get_or (domain_received_bytes d number slot input bytes) (x - d.part.start) 0 ≡ get_or bytes (x - d.part.start) 0
  others-kept p a n h x c = go (dec_eq (get_or (domain_received_bytes d number slot input bytes) (x - d.part.start) 0) (get_or bytes (x - d.part.start) 0))
    where
      go :
          Dec (get_or (domain_received_bytes d number slot input bytes) (x - d.part.start) 0 ≡ get_or bytes (x - d.part.start) 0) →
          get_or (domain_received_bytes d number slot input bytes) (x - d.part.start) 0 ≡ get_or bytes (x - d.part.start) 0
      go (yes e) = e
      go (no e) =
          let z = changed_in_receiver (x - d.part.start) e in
          let l = writer_lies d k a h in
          let m : d.part.start + (x - d.part.start) ≡ x = omega (arith, l.0, c.0) in
          absurd
          (shares_no_byte (start_of d a) (len_of d a) (start_of d (receiver d slot input)) (len_of d (receiver d slot input)) (p a (receiver d slot input) n h z.0) x c
          (subst (Has d (receiver d slot input)) m z.1))

-- ---- in the store

-- a byte of a part of the store
byte_in : (p : Part) (mem : List ℕ) (x : ℕ) → p.start ≤ x → x < p.end → get_or (mid_of p.start (p.end - p.start) mem) (x - p.start) 0 ≡ get_or mem x 0
byte_in p mem x l h =
    get_or-take (p.end - p.start) (drop p.start mem) (x - p.start) 0 (omega (arith, l, h))
    ∙ get_or-drop p.start mem (x - p.start) 0
    ∙ ap (λ (i : ℕ). get_or mem i 0) (let e : p.start + (x - p.start) ≡ x = omega (arith, l) in e)

-- a byte of domain A that a call may change is one of the writer that the call fills
pub record Filled (b : Rnic) (rooms : List ℕ) (c : Call) (A x : ℕ) : Type 0 where
  pub writer : Writer
  pub fills : Fills b rooms c A writer
  pub writes : Writes (domain_at b A) writer
  pub has : Has (domain_at b A) writer x

-- a stream of a domain A is one of its four
stream_owner : (n A : ℕ) → A < 4 → of_stream n ≡ A → n / 4 ≡ A
stream_owner n A h_a = go (leb n 15)
  where
    go : (t : Bool) → pick t (n / 4) 4 ≡ A → n / 4 ≡ A
    go true e = e
    go false e = absurd (omega (arith, h_a, e))

-- a stream that holds bytes receives none
unless_held :
    (d : Domain) (number slot : ℕ) (input bytes : List ℕ) (i : ℕ) →
    get_or (domain_received_bytes d number slot input bytes) i 0 ≡ get_or bytes i 0 → get_or (domain_receives_bytes d number slot input bytes) i 0 ≡ get_or bytes i 0
unfolding domain_receives_bytes
unless_held d number slot input bytes i e = picked (λ (l : List ℕ). get_or l i 0 ≡ get_or bytes i 0) (holds_at d slot) bytes _ (λ q. refl) (λ q. e)

-- in every world that a run from an opening reaches, each byte of a part that the next call changes is one of the writer that the call fills
pub changed_is-filled :
    (o : Opening) (mem rooms : List ℕ) {I : Interface} {w w₁ : World} {cs : List I.Request} → Opened o mem rooms w → Run I w cs w₁ →
    (c : I.Request) (y : I.Reply) (w₂ : World) → I.Made w₁ c y w₂ →
    (A : ℕ) → A < 4 → (x : ℕ) → (domain_at w₁.dev A).part.start ≤ x → x < (domain_at w₁.dev A).part.end →
    (get_or w₂.mem x 0 ≡ get_or w₁.mem x 0 → ⊥) → Filled w₁.dev w₁.rooms (I.call c) A x
changed_is-filled o mem rooms {I = I} {w = w} {w₁ = w₁} z r c y w₂ m A h_a x low high changed = seen.1 (λ e. changed (same e))
  where
    d : Domain
    d = domain_at w₁.dev A

    d₂ : Domain
    d₂ = domain_at w₂.dev A

    f : Fit w₁
    f = run_fit I (opened_fit o mem rooms w z) r

    Seen : Call → View → Type 0
    Seen k v =
        (v.dom.part ≡ d.part) ×
        ((get_or v.bytes (x - d.part.start) 0 ≡ get_or (bytes_of d w₁.mem) (x - d.part.start) 0 → ⊥) → Filled w₁.dev w₁.rooms k A x)

    -- a call that changes no byte
    still : (k : Call) (v : View) → v.dom.part ≡ d.part → v.bytes ≡ bytes_of d w₁.mem → Seen k v
    still k v p e = (p, λ q. absurd (q (ap (λ (l : List ℕ). get_or l (x - d.part.start) 0) e)))

    -- the writer that some bytes on a stream of A's are for
    filled : (k : Call) (slot : ℕ) (p : List ℕ) → Fills w₁.dev w₁.rooms k A (receiver d slot p) →
        (get_or (domain_received_bytes d A slot p (bytes_of d w₁.mem)) (x - d.part.start) 0 ≡ get_or (bytes_of d w₁.mem) (x - d.part.start) 0 → ⊥) → Filled w₁.dev w₁.rooms k A x
    filled k slot p e q =
        let b = changed_in_receiver d (reached_sound o mem rooms z r A h_a) A slot p (bytes_of d w₁.mem) (mid_len _ _ w₁.mem (f.within A h_a)) (x - d.part.start) q in
        let s : d.part.start + (x - d.part.start) ≡ x = omega (arith, low) in
        record { writer = receiver d slot p; fills = e; writes = b.0; has = subst (Has d (receiver d slot p)) s b.1 }

    lent : (n : ℕ) (input : List ℕ) (size : ℕ) → of_stream n ≡ A → Seen (receive n input size) (book_receive A (view A w₁) n input).after
    lent n input size e = ((received_keeps d A (n % 4) input).part, λ q. filled (receive n input size) (n % 4) input (e, refl) (λ same. q (unless_held d A (n % 4) input (bytes_of d w₁.mem) (x - d.part.start) same)))

    both_lent : (n : ℕ) (input : List ℕ) (size many : ℕ) → of_stream n ≡ A → Seen (offer n input size many) (book_offer A (view A w₁) n input).after
    both_lent n input size many e = (
      offered-part d A (n % 4) ((view A w₁).held (n % 4)) input,
      λ q.
          let h = held_bytes w₁.dev n w₁.rooms in
          let held : (view A w₁).held (n % 4) ≡ h = subst (λ (B : ℕ). (view B w₁).held (n % 4) ≡ h) (stream_owner n A h_a e) (held-is w₁ n) in
          filled (offer n input size many) (n % 4) (h ++ input) (e, refl)
          (λ same. q (ap (λ (l : List ℕ). get_or l (x - d.part.start) 0) (ap (λ (l : List ℕ). domain_offered_bytes d A (n % 4) l input (bytes_of d w₁.mem)) held ∙ offered-bytes d A (n % 4) h input (bytes_of d w₁.mem)) ∙ same)),
    )

    quiet : (k : Call) → (book A (view A w₁) k).after.dom.part ≡ d.part → (book A (view A w₁) k).after.bytes ≡ bytes_of d w₁.mem → Seen k (book A (view A w₁) k).after
    quiet k p e = still k (book A (view A w₁) k).after p e

    booked : (k : Call) → owner_in w₁.dev k ≡ A → Seen k (book A (view A w₁) k).after
    booked (open_stream n crc) e = quiet (open_stream n crc) (opened_keeps d (n % 4) crc).part refl
    booked (close_stream n) e = quiet (close_stream n) (closed_keeps d (n % 4)).part refl
    booked (register i key base len place rights) e = quiet (register i key base len place rights) (registered_keeps d (i % 16) key base len place rights).part refl
    booked (drop_window i) e = quiet (drop_window i) (dropped_keeps d (i % 16)).part refl
    booked (post n start len) e = quiet (post n start len) (posted_keeps d (n % 4) start len).part refl
    booked (receive n input size) e =
        picked (λ (o : Observation Answer). Seen (receive n input size) o.after) (eqb size w₁.dev.len) (book_receive A (view A w₁) n input) _
        (λ q. lent n input size e) (λ q. still (receive n input size) (view A w₁) refl refl)
    booked (offer n input size many) e =
        picked (λ (o : Observation Answer). Seen (offer n input size many) o.after) (both (eqb size w₁.dev.len) (eqb many rooms_bytes)) (book_offer A (view A w₁) n input) _
        (λ q. both_lent n input size many e) (λ q. still (offer n input size many) (view A w₁) refl refl)
    booked (take_read n) e = quiet (take_read n) (taken_keeps d (n % 4)).part refl
    booked (live i) e = quiet (live i) refl refl
    booked (free i) e = quiet (free i) refl refl
    booked (tick i) e = quiet (tick i) (ticked_keeps d).part refl
    booked (read_gauge i) e = quiet (read_gauge i) refl refl
    booked (ask_state n) e = quiet (ask_state n) refl refl

    stepped : (k : Call) (b : Answer) → Step w₁ k b w₂ → Dec (owner_in w₁.dev k ≡ A) → Seen k (view A w₂)
    stepped k b s (yes e) = subst (Seen k) (sym (ap (λ (v : Observation Answer). v.after) (own A h_a w₁ k b w₂ f e s))) (booked k e)
    stepped k b s (no e) = subst (Seen k) (sym (alien A h_a w₁ k b w₂ f e s)) (still k (view A w₁) refl refl)

    seen : Seen (I.call c) (view A w₂)
    seen = let s = I.is_step w₁ c y w₂ m in stepped (I.call c) s.0 s.1 (dec_eq (owner_in w₁.dev (I.call c)) A)

    -- and so of the store
    same : get_or (bytes_of d₂ w₂.mem) (x - d.part.start) 0 ≡ get_or (bytes_of d w₁.mem) (x - d.part.start) 0 → get_or w₂.mem x 0 ≡ get_or w₁.mem x 0
    same e =
        let here : (d₂.part.start ≤ x) × (x < d₂.part.end) = subst (λ (p : Part). (p.start ≤ x) × (x < p.end)) (sym seen.0) (low, high) in
        sym (byte_in d₂.part w₂.mem x here.0 here.1)
        ∙ ap (λ (p : Part). get_or (bytes_of d₂ w₂.mem) (x - p.start) 0) seen.0
        ∙ e
        ∙ byte_in d.part w₁.mem x low high

-- so the next call changes no byte of any write window, and of any waiting buffer, of any domain, but for the one that it fills
pub placed_apart :
    (o : Opening) (mem rooms : List ℕ) {I : Interface} {w w₁ : World} {cs : List I.Request} → Opened o mem rooms w → Run I w cs w₁ →
    (c : I.Request) (y : I.Reply) (w₂ : World) → I.Made w₁ c y w₂ →
    (A : ℕ) → A < 4 → (a : Writer) → Writes (domain_at w₁.dev A) a → (Fills w₁.dev w₁.rooms (I.call c) A a → ⊥) →
    (x : ℕ) → Has (domain_at w₁.dev A) a x → get_or w₂.mem x 0 ≡ get_or w₁.mem x 0
placed_apart o mem rooms {I = I} {w₁ = w₁} z r c y w₂ m A h_a a h other x l = go (dec_eq (get_or w₂.mem x 0) (get_or w₁.mem x 0))
  where
    d : Domain
    d = domain_at w₁.dev A

    all : NoneShared d
    all = never_shared o mem rooms z r A h_a

    go : Dec (get_or w₂.mem x 0 ≡ get_or w₁.mem x 0) → get_or w₂.mem x 0 ≡ get_or w₁.mem x 0
    go (yes e) = e
    go (no e) =
        let b = writer_lies d all.sound a h in
        let t = changed_is-filled o mem rooms z r c y w₂ m A h_a x (omega (arith, b.0, l.0)) (omega (arith, b.1, l.1)) e in
        absurd (all.no_byte a t.writer (λ q. other (subst (Fills w₁.dev w₁.rooms (I.call c) A) (sym q) t.fills)) h t.writes x l t.has)
