-- What an offer comes to, by what its pending bytes are, and that the stream's room then starts with the bytes that the stream holds: bytes
-- that are waited on are short, and so fit the room.
use Prim.Native.Nat.{ℕ, ◌+◌, ◌-◌, ◌≤◌, ◌<◌}
use mathlib.Core.Path.{◌≡◌, refl, sym, ap, subst, ◌∙◌}
use mathlib.Core.Bool.{Bool, true, false}
use mathlib.Core.List.{List, [], ◌++◌}
use native.Mathlib.Omega.{arith}
use native.Mathlib.Decide.{dec_lt}
use lib.ListN.{length, set, get_or, take, length-append, get_or-eq_default}
use lib.Seq.{take-length, get_or-set_same, set_out}
use lib.Dec.{leb, eqb}
use borrow.Author.Tests.{le-leb, eqb-true}
use Rattle.wire.specs.Wire.{pick, put}
use Rattle.wire.proofs.Laws.{take_put}
use Rattle.ddp.specs.Place.{fits, placed}
use Rattle.ddp.specs.Segment.{segment_read}
use Rattle.ddp.specs.declared.segment.SegmentRead.{SegmentRead}
use Rattle.ddp.specs.declared.segment.SegmentRead.TheVariants.{Wait as SegmentWait, Tagged as TaggedSegment, Untagged as UntaggedSegment}
use Rattle.memory.specs.declared.window.Window.{Window}
use Rattle.rdmap.specs.Message.{queue_of}
use Rattle.rdmap.specs.Phase.{readiness}
use Rattle.rdmap.specs.Stream.{holding, no_stream}
use Rattle.rdmap.specs.declared.message.Verdict.{Verdict}
use Rattle.rdmap.specs.declared.message.Verdict.TheVariants.{Nothing, Write, SendMore, SendLast, Read, Terminate}
use Rattle.rdmap.specs.declared.stream.Stream.{Stream}
use Rattle.domain.specs.Domain.{stream_at, domain_received_bytes, metered_of, lifted}
use Rattle.arrival.specs.Parts.{parts_applied, parts_verdict, parts_judged, parts_placed, parts_unchanged, parts_answered, parts_when, parts_bytes_when, parts_received, parts_received_bytes}
use Rattle.arrival.specs.declared.Answer.TheVariants.{Wait}
use Rattle.domain.specs.declared.Domain.{Domain}
use Rattle.arrival.specs.declared.parts.PartsReceived.{PartsReceived}
use Rattle.cuts.specs.Received.{Short}
use Rattle.holding.specs.Pending.{room_bytes, needed_of, is_short, copied, room_after}
use Rattle.holding.proofs.Pending.{Few, short_few, Decided, enough_judges}
use Rattle.holding.proofs.Pending.Few.{under, part}
use Rattle.holding.proofs.Rooms.{room-length, take-held}
use Rattle.holding.specs.Offer.{is_open, parts_held_of, parts_offered, parts_offered_bytes, held_of, stream_room, domain_offered, domain_offered_bytes, domain_offered_held}
use Rattle.std.specs.Prelude.{Err, Ok, Result, ⊤}
use Rattle.ddp.specs.declared.refusal.Refusal.{Refusal}
use Rattle.wire.specs.declared.refusal.LocalRefusal.{LocalRefusal}
use Rattle.wire.specs.declared.refusal.LocalRefusal.TheVariants.{NotOpen, OutOfRange, StreamEnded}

-- ---- bytes that are waited on

-- they are too few for a receive, and a stream may hold them
pub record Waited (p : List ℕ) : Type 0 where
  pub short : is_short p ≡ true
  pub begins : Short p

few_begins : (p : List ℕ) → Few p → Short p
few_begins p (under h) = record { fits = omega (arith, h); begins = λ g. absurd (omega (arith, h, g)) }
few_begins p (part k) = record { fits = omega (arith, k.less, k.low); begins = λ g. (k.low, k.less) }

pub waited : (crc : Bool) (p : List ℕ) (n : ℕ) → segment_read crc p ≡ Ok (SegmentWait n) → Waited p
waited crc p n e = go (is_short p) refl
  where
    go : (b : Bool) → is_short p ≡ b → Waited p
    go true q = record { short = q; begins = few_begins p (short_few p q) }
    go false q =
        absurd
        (subst Decided (ap (λ (x : Result SegmentRead Refusal). (parts_answered no_stream (parts_judged [] 0 no_stream p x)).answer) e)
        (enough_judges (record { start = 0; end = 0 }) [] 0 no_stream crc [] p q))

-- ---- what an offer comes to

-- a stream that is not ready is not open, and one that is ready is
pub shut_phase : (s : Stream) (k : LocalRefusal) → readiness s.phase ≡ Err k → is_open s ≡ false
shut_phase s k = go (eqb s.phase.state 0) refl (eqb s.phase.state 1) refl
  where
    go :
        (a : Bool) → eqb s.phase.state 0 ≡ a → (b : Bool) → eqb s.phase.state 1 ≡ b →
        ◌≡◌ {A = Result ⊤ LocalRefusal} (pick a (Err NotOpen) (pick b (Ok tt) (Err StreamEnded))) (Err k) → b ≡ false
    go a p false q e = refl
    go true p true q e = absurd (omega (arith, eqb-true s.phase.state 0 p, eqb-true s.phase.state 1 q))
    go false p true q e = absurd (let no : ◌≡◌ {A = ℕ} 0 1 = cc in omega arith)

pub ready_phase : (s : Stream) → readiness s.phase ≡ (Ok tt) → is_open s ≡ true
ready_phase s = go (eqb s.phase.state 0) (eqb s.phase.state 1)
  where
    go : (a b : Bool) → ◌≡◌ {A = Result ⊤ LocalRefusal} (pick a (Err NotOpen) (pick b (Ok tt) (Err StreamEnded))) (Ok tt) → b ≡ true
    go a true e = refl
    go true false e = absurd (let no : ◌≡◌ {A = ℕ} 0 1 = cc in omega arith)
    go false false e = absurd (let no : ◌≡◌ {A = ℕ} 0 1 = cc in omega arith)

-- a judged FPDU is taken or ends the stream
judged_held : (s t : Stream) (pending total : ℕ) (v : Result Verdict Refusal) → parts_held_of s pending (parts_applied t total v) ≡ parts_applied t total v
unfolding parts_applied
judged_held s t pending total (Err r) = refl
judged_held s t pending total (Ok Nothing) = refl
judged_held s t pending total (Ok (Write at)) = refl
judged_held s t pending total (Ok (SendMore at opcode taken)) = refl
judged_held s t pending total (Ok (SendLast at opcode start len inv)) = refl
judged_held s t pending total (Ok (Read r)) = refl
judged_held s t pending total (Ok (Terminate layer etype code)) = refl

-- by cases: a stream that is not open refuses it; one that is open waits, and then holds all of the pending bytes, which are short; or judges
-- them with nothing held
pub offered-by :
    (P : PartsReceived → Type 0) (ws : List Window) (number : ℕ) (s : Stream) (held input : List ℕ) →
    ((k : LocalRefusal) → is_open s ≡ false → P (parts_unchanged s (Err k))) →
    ((n : ℕ) → is_open s ≡ true → Waited (held ++ input) → P (parts_unchanged (holding s (length held + length input)) (Ok (Wait n)))) →
    ((total : ℕ) (v : Result Verdict Refusal) → is_open s ≡ true → P (parts_applied (holding s 0) total v)) →
    P (parts_offered ws number s held input)
unfolding parts_offered parts_received
offered-by P ws number s held input shut waits judges = when (readiness s.phase) refl
  where
    judged : (total : ℕ) (v : Result Verdict Refusal) → is_open s ≡ true → P (parts_held_of s (length held + length input) (parts_applied (holding s 0) total v))
    judged total v o = subst P (sym (judged_held s (holding s 0) (length held + length input) total v)) (judges total v o)

    read :
        is_open s ≡ true → (x : Result SegmentRead Refusal) → segment_read s.framing.crc (held ++ input) ≡ x →
        P (parts_held_of s (length held + length input) (parts_answered (holding s 0) (parts_judged ws number (holding s 0) (held ++ input) x)))
    read o (Ok (SegmentWait n)) e = waits n o (waited s.framing.crc (held ++ input) n e)
    read o (Err r) e = judged 0 (Err r) o
    read o (Ok (TaggedSegment total h start len)) e = judged total (parts_verdict ws number (holding s 0) (held ++ input) (Ok (TaggedSegment total h start len))) o
    read o (Ok (UntaggedSegment total h start len)) e = judged total (parts_verdict ws number (holding s 0) (held ++ input) (Ok (UntaggedSegment total h start len))) o

    when : (r : Result ⊤ LocalRefusal) → readiness s.phase ≡ r → P (parts_held_of s (length held + length input) (parts_when ws number (holding s 0) (held ++ input) r))
    when (Ok tt) e = read (ready_phase s e) (segment_read s.framing.crc (held ++ input)) refl
    when (Err k) e = shut k (shut_phase s k e)

-- so one that is not open stays as it was
shut_stays : (ws : List Window) (number : ℕ) (s : Stream) (held input : List ℕ) → is_open s ≡ false → (parts_offered ws number s held input).stream ≡ s
shut_stays ws number s held input e =
    offered-by (λ r. r.stream ≡ s) ws number s held input (λ k o. refl)
    (λ n o w. absurd (let no : ◌≡◌ {A = ℕ} 0 1 = cc in omega arith)) (λ total v o. absurd (let no : ◌≡◌ {A = ℕ} 0 1 = cc in omega arith))

-- ---- the stream's room

-- it is as long as it was
pub room-long : (s : Stream) (held input room : List ℕ) → length (stream_room s held input room) ≡ length room
room-long s held input room = go (is_open s)
  where
    go : (b : Bool) → length (pick b (room_after held input room) room) ≡ length room
    go true = room-length held input room
    go false = refl

-- of short bytes all are put behind those held
pub room_starts :
    (held input room : List ℕ) → is_short (held ++ input) ≡ true → length held + length input ≤ length room → take (length held) room ≡ held →
    take (length held + length input) (room_after held input room) ≡ held ++ input
unfolding room_after copied placed fits
room_starts held input room short l e =
    ap (λ (b : Bool). take (length held + length input) (placed room (length held) (take (pick b (length input) (pick (eqb (length held) 0) 0 (needed_of (held ++ input) - length held))) input))) short
    ∙ ap (λ (xs : List ℕ). take (length held + length input) (placed room (length held) xs)) (take-length input)
    ∙ ap (λ (b : Bool). take (length held + length input) (pick b (put room (length held) input) room)) (le-leb (length held + length input) (length room) l)
    ∙ take_put room (length held) input (omega (arith, l))
    ∙ ap (λ (xs : List ℕ). xs ++ input) e

-- nothing is held of an FPDU that was judged
abbrev pub Empties : PartsReceived → Type 0
Empties r = (r.stream.framing.held ≡ 0) × ((held input : List ℕ) → held_of held input r.answer ≡ [])

pub judged_empties : (s : Stream) (total : ℕ) (v : Result Verdict Refusal) → Empties (parts_applied (holding s 0) total v)
unfolding parts_applied
judged_empties s total (Err r) = (refl, λ h i. refl)
judged_empties s total (Ok Nothing) = (refl, λ h i. refl)
judged_empties s total (Ok (Write at)) = (refl, λ h i. refl)
judged_empties s total (Ok (SendMore at opcode taken)) = (refl, λ h i. refl)
judged_empties s total (Ok (SendLast at opcode start len inv)) = (refl, λ h i. refl)
judged_empties s total (Ok (Read r)) = (refl, λ h i. refl)
judged_empties s total (Ok (Terminate layer etype code)) = (refl, λ h i. refl)

-- after an offer the room starts with the bytes that the stream holds
pub room-holds :
    (ws : List Window) (number : ℕ) (s : Stream) (input room : List ℕ) → length room ≡ room_bytes →
    take (parts_offered ws number s (take s.framing.held room) input).stream.framing.held (stream_room s (take s.framing.held room) input room)
    ≡ held_of (take s.framing.held room) input (parts_offered ws number s (take s.framing.held room) input).answer
room-holds ws number s input room size =
    offered-by (λ r. take r.stream.framing.held (stream_room s h input room) ≡ held_of h input r.answer) ws number s h input
    (λ k o. ap (λ (b : Bool). take s.framing.held (pick b (room_after h input room) room)) o)
    (λ n o w.
    ap (λ (b : Bool). take (length h + length input) (pick b (room_after h input room) room)) o
    ∙ room_starts h input room w.short (omega (arith, w.begins.fits, size, length-append h input)) (take-held s.framing.held room))
    (λ total v o. let e = judged_empties s total v in ap (λ (n : ℕ). take n (stream_room s h input room)) e.0 ∙ sym (e.1 h input))
  where
    h : List ℕ
    h = take s.framing.held room

-- ---- of a domain

-- the same, of the stream of a slot
pub domain-room-holds :
    (d : Domain) (number slot : ℕ) → slot ≤ 3 → (input room : List ℕ) → length room ≡ room_bytes →
    take (stream_at (domain_offered d number slot (take (stream_at d slot).framing.held room) input).1 slot).framing.held
    (stream_room (stream_at d slot) (take (stream_at d slot).framing.held room) input room)
    ≡ domain_offered_held d number slot (take (stream_at d slot).framing.held room) input
unfolding domain_offered domain_offered_held
domain-room-holds d number slot l input room size =
    subst (λ (b : Bool). take (stream_at (pick b (metered_of (segment_read s.framing.crc (h ++ input)) (lifted d slot r)) (Err OutOfRange, d)).1 slot).framing.held (stream_room s h input room) ≡ held_of h input (pick b (metered_of (segment_read s.framing.crc (h ++ input)) (lifted d slot r)) (Err OutOfRange, d)).0)
    (sym (le-leb slot 3 l)) (go (dec_lt slot (length d.streams)))
  where
    s : Stream
    s = stream_at d slot

    h : List ℕ
    h = take s.framing.held room

    r : PartsReceived
    r = parts_offered d.windows number s h input

    go : Dec (slot < length d.streams) → take (get_or (set d.streams slot r.stream) slot no_stream).framing.held (stream_room s h input room) ≡ held_of h input r.answer
    go (yes b) =
        ap (λ (t : Stream). take t.framing.held (stream_room s h input room)) (get_or-set_same d.streams slot r.stream no_stream b)
        ∙ room-holds d.windows number s input room size
    go (no b) =
        let none : is_open s ≡ false = ap is_open (get_or-eq_default d.streams no_stream (omega arith)) in
        ap (λ (l : List Stream). take (get_or l slot no_stream).framing.held (stream_room s h input room)) (set_out d.streams slot r.stream (omega arith))
        ∙ ap (λ (t : Stream). take t.framing.held (stream_room s h input room)) (sym (shut_stays d.windows number s h input none))
        ∙ room-holds d.windows number s input room size

-- an offer does with the domain's bytes what receive does with the pending ones
pub offered-bytes : (d : Domain) (number slot : ℕ) (held input bytes : List ℕ) → domain_offered_bytes d number slot held input bytes ≡ domain_received_bytes d number slot (held ++ input) bytes
unfolding domain_offered_bytes parts_offered_bytes domain_received_bytes parts_received_bytes queue_of
offered-bytes d number slot held input bytes =
    ap (λ (l : List ℕ). pick (leb slot 3) l bytes) (when (readiness (stream_at d slot).phase))
  where
    s : Stream
    s = stream_at d slot

    read :
        (x : Result SegmentRead Refusal) →
        parts_placed d.part d.windows number (holding s 0) (held ++ input) bytes x ≡ parts_placed d.part d.windows number s (held ++ input) bytes x
    read (Ok (SegmentWait n)) = refl
    read (Err r) = refl
    read (Ok (TaggedSegment total h start len)) = refl
    read (Ok (UntaggedSegment total h start len)) = refl

    when :
        (r : Result ⊤ LocalRefusal) →
        parts_bytes_when d.part d.windows number (holding s 0) (held ++ input) bytes r ≡ parts_bytes_when d.part d.windows number s (held ++ input) bytes r
    when (Ok tt) = read (segment_read s.framing.crc (held ++ input))
    when (Err k) = refl
