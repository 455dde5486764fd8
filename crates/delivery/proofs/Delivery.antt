-- What the writer writes, the receiver takes: a Send and a Write, begun by `sender`, framed by `mpa`, and received by a domain's
-- open stream that has room for it. For every limit and every length, CRC on or off, and whatever bytes come after each FPDU.
-- Assumes nothing.
use Prim.Native.Nat.{ℕ, zero, suc, ◌+◌, ◌-◌, ◌≤◌, ◌<◌}
use mathlib.Core.Path.{◌≡◌, refl, sym, ap, ap₂, subst, ◌∙◌}
use mathlib.Core.Bool.{Bool, true, false}
use mathlib.Core.List.{List, [], ◌∷◌, append-nil}
use native.Mathlib.Nat.{add-zero}
use native.Mathlib.Omega.{arith}
use lib.ListN.{length, set}
use lib.Seq.{get_or-set_same}
use borrow.Author.Tests.{le-leb}
use Rattle.wire.specs.Wire.{pick, put}
use Rattle.mpa.specs.Fpdu.{fpdu_of}
use Rattle.memory.specs.Window.{window_at, dropped, dropped_in, entering, refusing, dead_of, keeping, slot_named, found_in}
use Rattle.memory.specs.declared.window.Window.{Window}
use Rattle.rdmap.specs.Message.{goes_on, takes_stag}
use Rattle.rdmap.specs.Stream.{sent_on, no_stream}
use Rattle.rdmap.specs.declared.stream.Stream.{Stream}
use Rattle.domain.specs.Domain.{stream_at}
use Rattle.arrival.specs.Parts.{sent_event, killed}
use Rattle.domain.specs.declared.Domain.{Domain}
use Rattle.sender.specs.Message.{stag_held, write_begun, send_begun, segment_bytes, advanced, segments_of}
use Rattle.sender.specs.declared.Message.{Message}
use Rattle.delivery.specs.Delivery.{framed, fpdus_of, Begin, Outcome, received_all, with_event, events_of, answers_of, invalidates, sent_domain, written_domain}
use Rattle.delivery.specs.Promise.{SendRoom, WriteRoom, buffer_of, window_of, event_of, SendDelivered, WriteDelivered}
use Rattle.delivery.proofs.Begun.{SendAccepted, WriteAccepted, send-accepted, write-accepted}
use Rattle.delivery.proofs.Placed.{put-placed, none_said, one-said}
use Rattle.delivery.proofs.Send.{send_at, Under, send-enough, send-received, send-joined}
use Rattle.delivery.proofs.Steps.{outcome_path, own-stream}
use Rattle.delivery.proofs.Tagged.{put-none}
use Rattle.delivery.proofs.Write.{write_at, write-enough, write-received, write-joined}
use Rattle.std.specs.Prelude.{None, Ok, Option, Some}
use Rattle.wire.specs.declared.refusal.LocalRefusal.TheVariants.{OutOfRange, WindowNotLive}

-- the bytes given are the FPDUs, with none after them
pub begin_alone : (fs : List (List ℕ)) → Begin fs fs
begin_alone [] = tt
begin_alone (f ∷ fs) = (([], sym (append-nil f)), begin_alone fs)

-- a message that is not done has an FPDU
fpdus_some : (m : Message) (message : List ℕ) → m.done ≡ false → fpdus_of m message ≡ fpdu_of (segment_bytes m message) ∷ framed (segments_of m.len (advanced m) message)
unfolding framed segments_of
fpdus_some m message e = ap (λ (t : Bool). framed (pick t [] (segment_bytes m message ∷ segments_of m.len (advanced m) message))) e

-- a Send's event is one
said : (start len opcode : ℕ) (inv : Option (ℕ × ℕ)) → with_event (sent_event start len opcode inv) [] ≡ sent_event start len opcode inv ∷ []
said start len opcode None = refl
said start len opcode (Some (slot, stag)) = refl

-- ---- the window that a Send invalidates

-- a dead window in a slot, whether there is such a slot or not
dead-there : (ws : List Window) (i : ℕ) (w : Window) → w.live ≡ false → (window_at (set ws i w) i).live ≡ false
dead-there [] i w e = refl
dead-there (x ∷ ws) zero w e = e
dead-there (x ∷ ws) (suc i) w e = dead-there ws i w e

dead_in : (w : Window) → (dropped_in w).1.live ≡ false
unfolding dropped_in
dead_in w = go w.live refl
  where
    go : (t : Bool) → w.live ≡ t → (pick t (Ok tt, dead_of w) (keeping w WindowNotLive)).1.live ≡ false
    go true e = refl
    go false e = e

dead-dropped : (ws : List Window) (i : ℕ) → i ≤ 15 → (window_at (dropped ws i).1 i).live ≡ false
unfolding dropped
dead-dropped ws i h =
    ap (λ (t : Bool). (window_at (pick t (entering ws i (dropped_in (window_at ws i))) (refusing ws OutOfRange)).1 i).live) (le-leb i 15 h)
    ∙ dead-there ws i (dropped_in (window_at ws i)).1 (dead_in (window_at ws i))

dead-killed : (ws : List Window) (opcode stag : ℕ) → takes_stag opcode ≡ true → (window_at (killed (invalidates opcode stag) ws) (slot_named stag)).live ≡ false
dead-killed ws opcode stag e =
    ap (λ (t : Bool). (window_at (killed (pick {A = Option (ℕ × ℕ)} t (Some (slot_named stag, stag)) None) ws) (slot_named stag)).live) e
    ∙ dead-dropped ws (slot_named stag) (omega arith)

-- ---- a Send

-- the STag that it writes: the one given, where it is taken
held-is : (opcode stag : ℕ) → takes_stag opcode ≡ true → stag_held opcode stag ≡ stag
held-is opcode stag e = ap (λ (t : Bool). pick t stag 0) e

held_same : (opcode stag : ℕ) → invalidates opcode (stag_held opcode stag) ≡ invalidates opcode stag
held_same opcode stag = go (takes_stag opcode)
  where
    go : (t : Bool) → pick {A = Option (ℕ × ℕ)} t (Some (slot_named (pick t stag 0), pick t stag 0)) None ≡ pick t (Some (slot_named stag, stag)) None
    go true = refl
    go false = refl

-- these are all of its FPDUs: more segments are not to be had
pub send-all : (limit opcode msn stag : ℕ) (message : List ℕ) (m : Message) → send_begun limit opcode msn stag (length message) ≡ Ok m → (most : ℕ) → length message < most → framed (segments_of most m message) ≡ fpdus_of m message
send-all limit opcode msn stag message m begun most h =
    let a = send-accepted limit opcode msn stag (length message) m begun in
    ap (λ (x : Message). framed (segments_of most x message)) a.is
    ∙ send-enough limit opcode (stag_held opcode stag) msn message a.low a.high a.short a.send a.msn-fits a.stag_fits most h
    ∙ ap (λ (x : Message). fpdus_of x message) (sym a.is)

module _
    (limit opcode msn stag : ℕ) (message : List ℕ) (m : Message) (begun : send_begun limit opcode msn stag (length message) ≡ Ok m)
    (d : Domain) (number slot : ℕ) (bytes : List ℕ) (room : SendRoom d number slot bytes opcode msn stag (length message))
    (inputs : List (List ℕ)) (begin : Begin inputs (fpdus_of m message))
  where
    a : SendAccepted limit opcode msn stag (length message) m
    a = send-accepted limit opcode msn stag (length message) m begun

    expected : Under d (stream_at d slot) opcode msn (length message) 0
    expected = record {
      ready = room.opened.ready;
      goes = ap (λ (n : ℕ). goes_on n opcode) room.idle;
      expected = sym room.expected;
      taken = sym room.none;
      waits = room.waits;
      enough = room.enough;
      low = room.lies.from;
      high = room.lies.upto;
    }

    live : takes_stag opcode ≡ true → found_in (window_at d.windows (slot_named (stag_held opcode stag))) number (stag_held opcode stag) ≡ Ok (slot_named (stag_held opcode stag))
    live e = subst (λ (x : ℕ). found_in (window_at d.windows (slot_named x)) number x ≡ Ok (slot_named x)) (sym (held-is opcode stag e)) (room.live e)

    begin_at : Begin inputs (fpdus_of (send_at limit opcode (stag_held opcode stag) msn (length message) 0 false) message)
    begin_at = subst (λ (x : Message). Begin inputs (fpdus_of x message)) a.is begin

    -- all of what receiving gives
    send-outcome :
        received_all d number slot bytes inputs
        ≡ record {
          answers = answers_of (event_of d slot opcode stag message) (fpdus_of m message);
          domain = sent_domain d slot (invalidates opcode stag) (length message);
          bytes = put bytes ((buffer_of d slot).start - d.part.start) message;
        }
    send-outcome =
        ap (λ (x : Domain). received_all x number slot bytes inputs) (sym (own-stream d slot))
        ∙ send-received limit opcode (stag_held opcode stag) msn message a.low a.high a.short a.send a.msn-fits a.stag_fits
        d number slot room.opened.inside room.opened.four live (stream_at d slot) d.meter bytes inputs expected room.opened.whole begin_at
        ∙ outcome_path
        (ap₂ (λ (i : Option (ℕ × ℕ)) (x : Message). answers_of (sent_event (buffer_of d slot).start (length message) opcode i) (fpdus_of x message)) (held_same opcode stag) (sym a.is))
        (ap (λ (i : Option (ℕ × ℕ)). sent_domain d slot i (length message)) (held_same opcode stag))
        (ap (λ (n : ℕ). put bytes n message) (add-zero ((buffer_of d slot).start - d.part.start)))

    pub send_delivered : SendDelivered d slot bytes inputs (fpdus_of m message) opcode stag message (received_all d number slot bytes inputs)
    send_delivered = record {
      answers = ap (λ (r : Outcome). r.answers) send-outcome;
      event =
          ap (λ (r : Outcome). events_of r.answers) send-outcome
          ∙ ap (λ (fs : List (List ℕ)). events_of (answers_of (event_of d slot opcode stag message) fs)) (fpdus_some m message (ap (λ (x : Message). x.done) a.is))
          ∙ one-said (event_of d slot opcode stag message) (fpdu_of (segment_bytes m message)) (framed (segments_of m.len (advanced m) message))
          ∙ said (buffer_of d slot).start (length message) opcode (invalidates opcode stag);
      joined = send-joined limit opcode (stag_held opcode stag) msn message a.low a.high a.short a.send a.msn-fits a.stag_fits (stream_at d slot).framing.crc inputs begin_at;
      placed =
          put-placed bytes ((buffer_of d slot).start - d.part.start) message
          (omega (arith, room.enough, room.lies.from, room.lies.upto, room.opened.whole))
          _ (ap (λ (r : Outcome). r.bytes) send-outcome);
      domain = ap (λ (r : Outcome). r.domain) send-outcome;
      msn =
          ap (λ (r : Outcome). (stream_at r.domain slot).sends.msn) send-outcome
          ∙ ap (λ (s : Stream). s.sends.msn) (get_or-set_same d.streams slot (sent_on (stream_at d slot)) no_stream (omega (arith, room.opened.four, room.opened.inside)));
      dead = λ e. ap (λ (r : Outcome). (window_of r.domain stag).live) send-outcome ∙ dead-killed d.windows opcode stag e;
    }

-- ---- a Write
pub write-all : (limit stag to : ℕ) (message : List ℕ) (m : Message) → write_begun limit stag to (length message) ≡ Ok m → (most : ℕ) → length message < most → framed (segments_of most m message) ≡ fpdus_of m message
write-all limit stag to message m begun most h =
    let w = write-accepted limit stag to (length message) m begun in
    ap (λ (x : Message). framed (segments_of most x message)) w.is
    ∙ write-enough limit stag to message w.low w.high w.stag_fits w.ends most h
    ∙ ap (λ (x : Message). fpdus_of x message) (sym w.is)

module _
    (limit stag to : ℕ) (message : List ℕ) (m : Message) (begun : write_begun limit stag to (length message) ≡ Ok m)
    (d : Domain) (number slot : ℕ) (bytes : List ℕ) (room : WriteRoom d number slot bytes stag to (length message))
    (inputs : List (List ℕ)) (begin : Begin inputs (fpdus_of m message))
  where
    w : WriteAccepted limit stag to (length message) m
    w = write-accepted limit stag to (length message) m begun

    abbrev place : ℕ
    place = (window_of d stag).place + (to - (window_of d stag).base) - d.part.start

    begin_written : Begin inputs (fpdus_of (write_at limit stag to (length message) 0 false) message)
    begin_written = subst (λ (x : Message). Begin inputs (fpdus_of x message)) w.is begin

    write-outcome :
        received_all d number slot bytes inputs
        ≡ record { answers = answers_of None (fpdus_of m message); domain = written_domain d (length message); bytes = put bytes place message }
    write-outcome =
        ap (λ (x : Domain). received_all x number slot bytes inputs) (sym (own-stream d slot))
        ∙ write-received limit stag to message w.low w.high w.stag_fits w.ends
        d number slot room.opened.inside room.opened.four room.covers (λ l. ((room.lies l).from, (room.lies l).upto)) (stream_at d slot) d.meter bytes inputs room.opened.ready room.opened.whole begin_written
        ∙ outcome_path
        (ap (λ (x : Message). answers_of None (fpdus_of x message)) (sym w.is))
        (ap (λ (x : Domain). written_domain x (length message)) (own-stream d slot))
        (ap (λ (n : ℕ). put bytes n message) (add-zero place))

    empty-put : (l : List ℕ) (n : ℕ) → length l ≡ 0 → put bytes n l ≡ bytes
    empty-put [] n e = put-none bytes n
    empty-put (x ∷ l) n e = absurd (omega arith)

    pub write_delivered : WriteDelivered d slot bytes inputs (fpdus_of m message) stag to message (received_all d number slot bytes inputs)
    write_delivered = record {
      answers = ap (λ (r : Outcome). r.answers) write-outcome;
      event = ap (λ (r : Outcome). events_of r.answers) write-outcome ∙ none_said (fpdus_of m message);
      joined = write-joined limit stag to message w.low w.high w.stag_fits w.ends (stream_at d slot).framing.crc inputs begin_written;
      placed = λ l.
          let c = room.covers l in
          let z = room.lies l in
          put-placed bytes place message
          (omega (arith, c.above, c.below, z.from, z.upto, room.opened.whole))
          _ (ap (λ (r : Outcome). r.bytes) write-outcome);
      empty = λ e. ap (λ (r : Outcome). r.bytes) write-outcome ∙ empty-put message place e;
      domain = ap (λ (r : Outcome). r.domain) write-outcome;
    }
