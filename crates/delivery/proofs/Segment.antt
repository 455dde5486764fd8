-- One segment that was read, over the parts of a domain that receive needs: what an open stream that expects it answers, what it
-- becomes, and where the payload goes.
use Prim.Native.Nat.{ℕ, ◌+◌, ◌-◌, ◌/◌, ◌%◌, ◌≤◌, ◌<◌}
use mathlib.Core.Path.{◌≡◌, refl, ap, ap₂, ◌∙◌}
use mathlib.Core.Bool.{Bool, true, false}
use mathlib.Core.List.{List}
use native.Mathlib.Omega.{arith}
use lib.ListN.{length}
use lib.Dec.{leb, eqb}
use borrow.Author.Tests.{leb-true, le-leb, lt-ltb, eq-eqb}
use Rattle.wire.specs.Wire.{pick, both, part, put}
use Rattle.wire.proofs.Laws.{both_true}
use Rattle.memory.specs.Window.{window_at, slot_named, found_in}
use Rattle.memory.specs.declared.part.Part.{Part}
use Rattle.memory.specs.declared.buffer.Buffer.{Buffer}
use Rattle.memory.specs.declared.window.Window.{Window}
use Rattle.ddp.specs.Place.{fits, placed}
use Rattle.ddp.specs.Segment.{segment_read}
use Rattle.ddp.specs.Untagged.{untagged_in, untagged_of}
use Rattle.ddp.specs.declared.header.UntaggedHeader.{UntaggedHeader}
use Rattle.ddp.specs.declared.segment.SegmentRead.{SegmentRead}
use Rattle.ddp.specs.declared.segment.SegmentRead.TheVariants.{Untagged as UntaggedSegment}
use Rattle.rdmap.specs.Message.{opcode_of, controlled, after, is_send, goes_on, fits_queue, takes_stag, invalidated, send_verdict, message_verdict, stag_named, queue_of, untagged_verdict}
use Rattle.rdmap.specs.Refusal.{rdmap_version, unexpected_opcode}
use Rattle.rdmap.specs.Phase.{readiness}
use Rattle.rdmap.specs.Sends.{current_buffer}
use Rattle.rdmap.specs.Stream.{sending_on, sent_on}
use Rattle.rdmap.specs.declared.message.Verdict.{Verdict}
use Rattle.rdmap.specs.declared.message.Verdict.TheVariants.{SendMore, SendLast}
use Rattle.rdmap.specs.declared.stream.Stream.{Stream}
use Rattle.arrival.specs.Parts.{sent_event, parts_taken, parts_applied, placed_from, applied_bytes, parts_verdict, parts_judged, parts_placed, parts_answered, parts_when, parts_bytes_when, parts_received, parts_received_bytes}
use Rattle.delivery.specs.Delivery.{invalidates}
use Rattle.std.specs.Prelude.{Err, None, Ok, Result, Some, ⊤}
use Rattle.ddp.specs.declared.refusal.Refusal.{Refusal}

-- what lies in the part is placed whole
pub placed-whole :
    (p : Part) (at : ℕ) (payload bytes : List ℕ) → length bytes ≡ p.end - p.start → p.start ≤ at → at + length payload ≤ p.end →
    placed_from p.start at payload bytes ≡ put bytes (at - p.start) payload
unfolding placed_from placed fits
placed-whole p at payload bytes e l r =
    simp (le-leb p.start at l, le-leb (at - p.start + length payload) (length bytes) (omega arith))

-- ---- a Send's segment

-- the header of a Send's segment
abbrev pub send_header : Bool → ℕ → ℕ → ℕ → ℕ → UntaggedHeader
send_header last opcode stag msn mo = record { last = last; control = (64 + opcode) % 256; stag = stag; qn = 0; msn = msn; mo = mo }

-- a stream that expects len more bytes of a Send
pub record Expects (s : Stream) (opcode msn mo len : ℕ) : Type 0 where
  pub ready : readiness s.phase ≡ (Ok tt)
  pub send : is_send opcode ≡ true
  pub goes : goes_on s.sends.opcode opcode ≡ true
  pub expected : msn ≡ s.sends.msn
  pub taken : mo ≡ s.sends.taken
  pub waits : 0 < s.sends.buffers.count
  pub enough : mo + len ≤ (current_buffer s.sends).len

opcode_low : (opcode : ℕ) → is_send opcode ≡ true → opcode ≤ 6
opcode_low opcode e = leb-true opcode 6 (both_true (leb 3 opcode) (leb opcode 6) e).1

-- the opcode and the version of the control byte
opcode_read : (opcode : ℕ) → is_send opcode ≡ true → opcode_of ((64 + opcode) % 256) ≡ opcode
opcode_read opcode e = omega (arith, opcode_low opcode e)

version_read : (opcode : ℕ) → is_send opcode ≡ true → (64 + opcode) % 256 / 64 ≡ 1
version_read opcode e = omega (arith, opcode_low opcode e)

module _ (s : Stream) (opcode stag msn mo len : ℕ) (x : Expects s opcode msn mo len) where
  -- DDP lets it pass
  passes : untagged_of (queue_of s 0) 0 msn mo len ≡ Ok (mo, (mo + len))
  unfolding untagged_of untagged_in queue_of
  passes =
      simp (eq-eqb msn s.sends.msn x.expected, lt-ltb 0 s.sends.buffers.count x.waits, eq-eqb mo s.sends.taken x.taken, le-leb (mo + len) (current_buffer s.sends).len x.enough)

  -- and RDMAP its control byte
  valid : controlled ((64 + opcode) % 256) (fits_queue 0 s.sends.opcode (opcode_of ((64 + opcode) % 256))) ≡ (Ok tt)
  valid =
      let under : ℕ = s.sends.opcode in
      ap₂ (λ (v o : ℕ). pick (eqb v 1) (pick (both (is_send o) (goes_on under o)) (Ok tt) (Err unexpected_opcode)) (Err rdmap_version)) (version_read opcode x.send) (opcode_read opcode x.send)
      ∙ ap₂ (λ (a b : Bool). pick (both a b) (Ok tt) (Err unexpected_opcode)) x.send x.goes

  -- so that it is judged as a Send
  judged :
      (w : Window) (number : ℕ) (last : Bool) (payload : List ℕ) → length payload ≡ len →
      untagged_verdict w number s.sends.opcode (current_buffer s.sends) (send_header last opcode stag msn mo) payload (untagged_of (queue_of s 0) 0 msn mo (length payload))
      ≡ send_verdict w number (current_buffer s.sends) (send_header last opcode stag msn mo) mo (mo + len)
  unfolding message_verdict
  judged w number last payload e =
      let b : Buffer = current_buffer s.sends in
      let h : UntaggedHeader = send_header last opcode stag msn mo in
      ap (λ (n : ℕ). untagged_verdict w number s.sends.opcode b h payload (untagged_of (queue_of s 0) 0 msn mo n)) e
      ∙ ap (untagged_verdict w number s.sends.opcode b h payload) passes
      ∙ ap (λ (k : Result ⊤ Refusal). after k (message_verdict w number b h mo (mo + len) payload)) valid

-- a segment that is not the last, and one that is
more_judged : (w : Window) (number : ℕ) (b : Buffer) (opcode stag msn mo end : ℕ) → is_send opcode ≡ true → send_verdict w number b (send_header false opcode stag msn mo) mo end ≡ Ok (SendMore (b.start + mo) opcode end)
unfolding send_verdict
more_judged w number b opcode stag msn mo end e = ap (λ (o : ℕ). Ok (SendMore (b.start + mo) o end)) (opcode_read opcode e)

last_judged :
    (w : Window) (number : ℕ) (b : Buffer) (opcode stag msn mo end : ℕ) → is_send opcode ≡ true → (takes_stag opcode ≡ true → found_in w number stag ≡ Ok (slot_named stag)) →
    send_verdict w number b (send_header true opcode stag msn mo) mo end ≡ Ok (SendLast (b.start + mo) opcode b.start end (invalidates opcode stag))
unfolding send_verdict
last_judged w number b opcode stag msn mo end e f =
    ap (λ (o : ℕ). pick (takes_stag o) (invalidated b o mo end stag (found_in w number stag)) (Ok (SendLast (b.start + mo) o b.start end None))) (opcode_read opcode e)
    ∙ go (takes_stag opcode) f
  where
    go :
        (t : Bool) → (t ≡ true → found_in w number stag ≡ Ok (slot_named stag)) →
        pick t (invalidated b opcode mo end stag (found_in w number stag)) (Ok (SendLast (b.start + mo) opcode b.start end None)) ≡ Ok (SendLast (b.start + mo) opcode b.start end (pick t (Some ((slot_named stag), stag)) None))
    go true g = ap (invalidated b opcode mo end stag) (g refl)
    go false g = refl

-- what an open stream makes of an untagged segment that is read from the bytes, by its verdict
module _
    (p : Part) (ws : List Window) (number : ℕ) (s : Stream) (input payload bytes : List ℕ) (total start len : ℕ) (h : UntaggedHeader) (v : Result Verdict Refusal)
    (ready : readiness s.phase ≡ (Ok tt))
    (read : segment_read s.framing.crc input ≡ Ok (UntaggedSegment total h start len))
    (there : part input start len ≡ payload)
    (verdict : untagged_verdict (window_at ws (slot_named (stag_named h payload))) number s.sends.opcode (current_buffer s.sends) h payload (untagged_of (queue_of s h.qn) h.qn h.msn h.mo (length payload)) ≡ v)
  where
    found : parts_verdict ws number s input (Ok (UntaggedSegment total h start len)) ≡ v
    found =
        ap (λ (l : List ℕ). untagged_verdict (window_at ws (slot_named (stag_named h l))) number s.sends.opcode (current_buffer s.sends) h l (untagged_of (queue_of s h.qn) h.qn h.msn h.mo (length l))) there
        ∙ verdict

    untagged_answered : parts_received ws number s input ≡ parts_applied s total v
    unfolding parts_received
    untagged_answered =
        ap (parts_when ws number s input) ready
        ∙ ap (λ (r : Result SegmentRead Refusal). parts_answered s (parts_judged ws number s input r)) read
        ∙ ap (parts_applied s total) found

    untagged_placed : parts_received_bytes p ws number s input bytes ≡ applied_bytes p.start v payload bytes
    unfolding parts_received_bytes
    untagged_placed =
        ap (parts_bytes_when p ws number s input bytes) ready
        ∙ ap (parts_placed p ws number s input bytes) read
        ∙ ap₂ (λ (x : Result Verdict Refusal) (l : List ℕ). applied_bytes p.start x l bytes) found there

-- a Send's segment, received
module _
    (p : Part) (ws : List Window) (number : ℕ) (s : Stream) (input payload bytes : List ℕ) (total start opcode stag msn mo : ℕ) (last : Bool)
    (x : Expects s opcode msn mo (length payload))
    (read : segment_read s.framing.crc input ≡ Ok (UntaggedSegment total (send_header last opcode stag msn mo) start (length payload)))
    (there : part input start (length payload) ≡ payload)
  where
    module _ (e : last ≡ false) where
      more_verdict :
          untagged_verdict (window_at ws (slot_named stag)) number s.sends.opcode (current_buffer s.sends) (send_header last opcode stag msn mo) payload (untagged_of (queue_of s 0) 0 msn mo (length payload))
          ≡ Ok (SendMore ((current_buffer s.sends).start + mo) opcode (mo + length payload))
      more_verdict =
          judged s opcode stag msn mo (length payload) x (window_at ws (slot_named stag)) number last payload refl
          ∙ ap (λ (l : Bool). send_verdict (window_at ws (slot_named stag)) number (current_buffer s.sends) (send_header l opcode stag msn mo) mo (mo + length payload)) e
          ∙ more_judged (window_at ws (slot_named stag)) number (current_buffer s.sends) opcode stag msn mo (mo + length payload) x.send

      pub more_answered : parts_received ws number s input ≡ parts_taken (sending_on s opcode (mo + length payload)) total None None
      unfolding parts_applied
      more_answered = untagged_answered p ws number s input payload bytes total start (length payload) (send_header last opcode stag msn mo) _ x.ready read there more_verdict

      pub more_placed : parts_received_bytes p ws number s input bytes ≡ placed_from p.start ((current_buffer s.sends).start + mo) payload bytes
      unfolding applied_bytes
      more_placed = untagged_placed p ws number s input payload bytes total start (length payload) (send_header last opcode stag msn mo) _ x.ready read there more_verdict

    module _ (e : last ≡ true) (f : takes_stag opcode ≡ true → found_in (window_at ws (slot_named stag)) number stag ≡ Ok (slot_named stag)) where
      last_verdict :
          untagged_verdict (window_at ws (slot_named stag)) number s.sends.opcode (current_buffer s.sends) (send_header last opcode stag msn mo) payload (untagged_of (queue_of s 0) 0 msn mo (length payload))
          ≡ Ok (SendLast ((current_buffer s.sends).start + mo) opcode (current_buffer s.sends).start (mo + length payload) (invalidates opcode stag))
      last_verdict =
          judged s opcode stag msn mo (length payload) x (window_at ws (slot_named stag)) number last payload refl
          ∙ ap (λ (l : Bool). send_verdict (window_at ws (slot_named stag)) number (current_buffer s.sends) (send_header l opcode stag msn mo) mo (mo + length payload)) e
          ∙ last_judged (window_at ws (slot_named stag)) number (current_buffer s.sends) opcode stag msn mo (mo + length payload) x.send f

      pub last_answered :
          parts_received ws number s input
          ≡ parts_taken (sent_on s) total (sent_event (current_buffer s.sends).start (mo + length payload) opcode (invalidates opcode stag)) (invalidates opcode stag)
      unfolding parts_applied
      last_answered = untagged_answered p ws number s input payload bytes total start (length payload) (send_header last opcode stag msn mo) _ x.ready read there last_verdict

      pub last-placed : parts_received_bytes p ws number s input bytes ≡ placed_from p.start ((current_buffer s.sends).start + mo) payload bytes
      unfolding applied_bytes
      last-placed = untagged_placed p ws number s input payload bytes total start (length payload) (send_header last opcode stag msn mo) _ x.ready read there last_verdict
