-- A Send's FPDUs, received one after the other by a stream that expects them.
use Prim.Native.Nat.{ℕ, zero, suc, ◌+◌, ◌-◌, ◌≤◌, ◌<◌}
use mathlib.Core.Path.{◌≡◌, refl, sym, ap, ◌∙◌}
use mathlib.Core.Bool.{Bool, true, false}
use mathlib.Core.List.{List, [], ◌∷◌, ◌++◌}
use native.Mathlib.Omega.{arith}
use lib.ListN.{length, set, drop, length-append}
use lib.Dec.{eqb}
use borrow.Author.Tests.{eq-eqb}
use Rattle.wire.specs.Wire.{pick, part, put}
use Rattle.mpa.specs.Fpdu.{max_ulpdu, total_of, fpdu_of}
use Rattle.mpa.proofs.Frames.{length_fpdu}
use Rattle.memory.specs.Window.{window_at, slot_named, found_in}
use Rattle.ddp.specs.Header.{untagged_bytes}
use Rattle.ddp.specs.Segment.{segment_read}
use Rattle.ddp.specs.declared.header.UntaggedHeader.{UntaggedHeader}
use Rattle.ddp.specs.declared.segment.SegmentRead.TheVariants.{Untagged as UntaggedSegment}
use Rattle.ddp.proofs.Round.{untagged_length}
use Rattle.rdmap.specs.Message.{is_send, goes_on, takes_stag}
use Rattle.rdmap.specs.Phase.{readiness}
use Rattle.rdmap.specs.Sends.{current_buffer}
use Rattle.rdmap.specs.Stream.{sending_on, sent_on}
use Rattle.rdmap.specs.declared.stream.Stream.{Stream}
use Rattle.meter.specs.Gauge.{counted_meter}
use Rattle.meter.specs.declared.Meter.{Meter}
use Rattle.domain.specs.Domain.{with_stream, with_meter}
use Rattle.arrival.specs.Parts.{sent_event, parts_taken, placed_from, killed}
use Rattle.domain.specs.declared.Domain.{Domain}
use Rattle.arrival.specs.declared.Event.{Event}
use Rattle.arrival.specs.declared.Answer.TheVariants.{Taken}
use Rattle.sender.specs.Cut.{piece_of, ends_in}
use Rattle.sender.specs.Message.{max32, header_bytes, segment_bytes, advanced, segments_of}
use Rattle.sender.specs.declared.Message.{Message}
use Rattle.delivery.specs.Delivery.{framed, Begin, Outcome, answering, received_all, payload_in, payloads, answers_of, invalidates}
use Rattle.delivery.proofs.Cut.{piece_last, piece_le, piece_fits, piece_long, last-part}
use Rattle.delivery.proofs.Framed.{untagged_framed, untagged_payload}
use Rattle.delivery.proofs.Segment.{placed-whole, send_header, Expects, more_answered, more_placed, last_answered, last-placed}
use Rattle.delivery.proofs.Steps.{outcome_path, received-next}
use Rattle.delivery.proofs.Induction.{Kept, enough, received, joined}
use Rattle.std.specs.Prelude.{None, Ok, Option}

-- a Send's message, so many bytes of it written
abbrev pub send_at : (limit opcode stag msn len at : ℕ) (done : Bool) → Message
send_at limit opcode stag msn len at done =
    record { tagged = false; opcode = opcode; stag = stag; to = 0; msn = msn; limit = limit; len = len; at = at; done = done }

-- a stream on which so many bytes of a Send of len bytes are taken, and that has room for the others in its domain's part
pub record Under (d : Domain) (s : Stream) (opcode msn len at : ℕ) : Type 0 where
  pub ready : readiness s.phase ≡ (Ok tt)
  pub goes : goes_on s.sends.opcode opcode ≡ true
  pub expected : msn ≡ s.sends.msn
  pub taken : at ≡ s.sends.taken
  pub waits : 0 < s.sends.buffers.count
  pub enough : len ≤ (current_buffer s.sends).len
  pub low : d.part.start ≤ (current_buffer s.sends).start
  pub high : (current_buffer s.sends).start + (current_buffer s.sends).len ≤ d.part.end

same_opcode : (opcode : ℕ) → goes_on opcode opcode ≡ true
same_opcode opcode = ap (pick (eqb opcode 0) true) (eq-eqb opcode opcode refl) ∙ go (eqb opcode 0)
  where
    go : (t : Bool) → pick t true true ≡ true
    go true = refl
    go false = refl

module _
    (limit opcode stag msn : ℕ) (message : List ℕ)
    (low : 19 ≤ limit) (high : limit ≤ max_ulpdu) (short : length message ≤ max32) (send : is_send opcode ≡ true) (m32 : msn ≤ max32) (s32 : stag ≤ max32)
  where
    room : 1 ≤ limit - 18
    room = omega arith

    abbrev size_at : ℕ → ℕ
    size_at at = piece_of (limit - 18) (length message - at)

    abbrev last_at : ℕ → Bool
    last_at at = ends_in (limit - 18) (length message - at)

    abbrev payload_at : ℕ → List ℕ
    payload_at at = part message at (size_at at)

    abbrev header_at : ℕ → UntaggedHeader
    header_at at = send_header (last_at at) opcode stag msn at

    abbrev fpdu_at : ℕ → List ℕ
    fpdu_at at = fpdu_of (untagged_bytes (header_at at) ++ payload_at at)

    -- the FPDUs from a place on: one, and those after it
    abbrev fpdus_from : ℕ → ℕ → Bool → List (List ℕ)
    fpdus_from most at done = framed (segments_of most (send_at limit opcode stag msn (length message) at done) message)

    first_of : (most at : ℕ) → fpdus_from (suc most) at false ≡ fpdu_at at ∷ fpdus_from most (at + size_at at) (last_at at)
    unfolding framed segments_of segment_bytes header_bytes advanced
    first_of most at = refl

    none_after : (most at : ℕ) → fpdus_from most at true ≡ []
    unfolding framed segments_of
    none_after zero at = refl
    none_after (suc most) at = refl

    -- what the receiver reads
    module _ (at : ℕ) (h : at ≤ length message) where
      long : length (payload_at at) ≡ size_at at
      long = piece_long (limit - 18) message at h

      total : length (fpdu_at at) ≡ total_of (18 + length (payload_at at))
      total =
          length_fpdu (untagged_bytes (header_at at) ++ payload_at at)
          ∙ ap total_of (length-append (untagged_bytes (header_at at)) (payload_at at) ∙ ap (λ (n : ℕ). n + length (payload_at at)) (untagged_length (header_at at)))

      pub carried : (crc : Bool) (rest : List ℕ) → segment_read crc (fpdu_at at ++ rest) ≡ Ok (UntaggedSegment (length (fpdu_at at)) (header_at at) 20 (length (payload_at at)))
      carried crc rest =
          untagged_framed crc (header_at at) (payload_at at) rest (omega arith) (omega arith) (omega arith) (omega arith)
          (omega (arith, long, (piece_le (limit - 18) (length message - at)).1))
          ∙ ap (λ (n : ℕ). Ok (UntaggedSegment n (header_at at) 20 (length (payload_at at)))) (sym total)

      pub there : (rest : List ℕ) → part (fpdu_at at ++ rest) 20 (length (payload_at at)) ≡ payload_at at
      there rest = untagged_payload true (header_at at) (payload_at at) rest

    pub send-enough : (most : ℕ) → length message < most → fpdus_from most 0 false ≡ fpdus_from (suc (length message)) 0 false
    send-enough most h = enough (limit - 18) room message fpdu_at fpdus_from first_of none_after most (suc (length message)) 0 (omega arith) (omega arith) (omega arith)

    pub send-joined :
        (crc : Bool) (inputs : List (List ℕ)) → Begin inputs (fpdus_from (suc (length message)) 0 false) → payloads crc inputs ≡ message
    send-joined crc inputs b =
        joined (limit - 18) room message fpdu_at fpdus_from first_of none_after crc
        (λ at rest h. ap (payload_in (fpdu_at at ++ rest)) (carried at h crc rest) ∙ there at h rest)
        (suc (length message)) 0 inputs (omega arith) (omega arith) b

    module _
        (d : Domain) (number slot : ℕ) (inside : slot < 4) (four : length d.streams ≡ 4)
        (live : takes_stag opcode ≡ true → found_in (window_at d.windows (slot_named stag)) number stag ≡ Ok (slot_named stag))
      where
        abbrev event_of : Stream → Option Event
        event_of s = sent_event (current_buffer s.sends).start (length message) opcode (invalidates opcode stag)

        abbrev domain_of : Stream → Domain
        domain_of s = record { part = d.part; windows = killed (invalidates opcode stag) d.windows; streams = set d.streams slot (sent_on s); meter = d.meter }

        -- where the message goes
        abbrev base_of : Stream → ℕ
        base_of s = (current_buffer s.sends).start - d.part.start

        abbrev next_of : Stream → ℕ → Stream
        next_of s at = sending_on s opcode (at + size_at at)

        abbrev outcome_at : Stream → Meter → ℕ → List ℕ → List (List ℕ) → Outcome
        outcome_at s m at bytes fs = record {
          answers = answers_of (event_of s) fs;
          domain = with_meter (domain_of s) (counted_meter m (length (drop at message)));
          bytes = put bytes (base_of s + at) (drop at message);
        }

        module _ (s : Stream) (m : Meter) (at : ℕ) (bytes : List ℕ) (h : at ≤ length message) (u : Under d s opcode msn (length message) at) (whole : length bytes ≡ d.part.end - d.part.start) (rest : List ℕ) where
          expects : Expects s opcode msn at (length (payload_at at))
          expects = record {
            ready = u.ready;
            send = send;
            goes = u.goes;
            expected = u.expected;
            taken = u.taken;
            waits = u.waits;
            enough = omega (arith, long at h, piece_fits (limit - 18) message at h, u.enough);
          }

          in_place : placed_from d.part.start ((current_buffer s.sends).start + at) (payload_at at) bytes ≡ put bytes (base_of s + at) (payload_at at)
          in_place =
              let fits : at + length (payload_at at) ≤ length message = omega (arith, long at h, piece_fits (limit - 18) message at h) in
              let place : (current_buffer s.sends).start + at - d.part.start ≡ (base_of s + at) = omega (arith, u.low) in
              placed-whole d.part ((current_buffer s.sends).start + at) (payload_at at) bytes whole (omega (arith, u.low)) (omega (arith, fits, u.enough, u.high))
              ∙ ap (λ (n : ℕ). put bytes n (payload_at at)) place

          -- the last
          last_one :
              last_at at ≡ true →
              received_all (with_meter (with_stream d slot s) m) number slot bytes ((fpdu_at at ++ rest) ∷ []) ≡ outcome_at s m at bytes (fpdu_at at ∷ [])
          unfolding received_all answers_of
          last_one e =
              let input : List ℕ = fpdu_at at ++ rest in
              let end : at + length (payload_at at) ≡ length message = omega (arith, long at h, piece_last (limit - 18) (length message - at) e) in
              let b : ℕ = (current_buffer s.sends).start in
              received-next (with_meter d m) number slot inside four s input bytes (put bytes (base_of s + at) (payload_at at)) _ _ [] (carried at h s.framing.crc rest)
              (last_answered d.part d.windows number s input (payload_at at) bytes (length (fpdu_at at)) 20 opcode stag msn at (last_at at) expects (carried at h s.framing.crc rest) (there at h rest) e live)
              (last-placed d.part d.windows number s input (payload_at at) bytes (length (fpdu_at at)) 20 opcode stag msn at (last_at at) expects (carried at h s.framing.crc rest) (there at h rest) e live ∙ in_place)
              ∙ outcome_path
              (ap (λ (n : ℕ). Ok (Taken (length (fpdu_at at)) (sent_event b n opcode (invalidates opcode stag))) ∷ []) end)
              (ap (λ (l : List ℕ). with_meter (domain_of s) (counted_meter m (length l))) (last-part (limit - 18) message at h e))
              (ap (put bytes (base_of s + at)) (last-part (limit - 18) message at h e))

          -- one that is not
          one_more :
              last_at at ≡ false → (inputs : List (List ℕ)) →
              received_all (with_meter (with_stream d slot s) m) number slot bytes ((fpdu_at at ++ rest) ∷ inputs)
              ≡ answering (Ok (Taken (length (fpdu_at at)) None))
              (received_all (with_meter (with_stream d slot (sending_on s opcode (at + size_at at))) (counted_meter m (length (payload_at at)))) number slot (put bytes (base_of s + at) (payload_at at)) inputs)
          one_more e inputs =
              let input : List ℕ = fpdu_at at ++ rest in
              received-next (with_meter d m) number slot inside four s input bytes (put bytes (base_of s + at) (payload_at at)) _ _ inputs (carried at h s.framing.crc rest)
              (more_answered d.part d.windows number s input (payload_at at) bytes (length (fpdu_at at)) 20 opcode stag msn at (last_at at) expects (carried at h s.framing.crc rest) (there at h rest) e
              ∙ ap (λ (n : ℕ). parts_taken (sending_on s opcode (at + n)) (length (fpdu_at at)) None None) (long at h))
              (more_placed d.part d.windows number s input (payload_at at) bytes (length (fpdu_at at)) 20 opcode stag msn at (last_at at) expects (carried at h s.framing.crc rest) (there at h rest) e ∙ in_place)

        -- the stream after it
        goes_on_lem :
            (s : Stream) (at : ℕ) → at ≤ length message → Under d s opcode msn (length message) at →
            Kept (limit - 18) room message fpdu_at fpdus_from first_of none_after d number slot (λ (s : Stream) (at : ℕ). Under d s opcode msn (length message) at) next_of event_of domain_of base_of s at
        goes_on_lem s at h u = record {
          inv = record {
            ready = u.ready;
            goes = same_opcode opcode;
            expected = u.expected;
            taken = refl;
            waits = u.waits;
            enough = u.enough;
            low = u.low;
            high = u.high;
          };
          event-same = refl;
          final_same = refl;
          base_same = refl;
          fits = omega (arith, piece_fits (limit - 18) message at h, u.enough, u.low, u.high);
        }

        pub send-received :
            (s : Stream) (m : Meter) (bytes : List ℕ) (inputs : List (List ℕ)) → Under d s opcode msn (length message) 0 → length bytes ≡ d.part.end - d.part.start →
            Begin inputs (fpdus_from (suc (length message)) 0 false) →
            received_all (with_meter (with_stream d slot s) m) number slot bytes inputs ≡ outcome_at s m 0 bytes (fpdus_from (suc (length message)) 0 false)
        send-received s m bytes inputs u whole b =
            received (limit - 18) room message fpdu_at fpdus_from first_of none_after d number slot (λ (s : Stream) (at : ℕ). Under d s opcode msn (length message) at) next_of event_of domain_of base_of
            (λ s m at bytes rest h u whole e. last_one s m at bytes h u whole rest e) (λ s m at bytes rest h u whole e inputs. one_more s m at bytes h u whole rest e inputs) (λ s at h u e. goes_on_lem s at h u)
            (suc (length message)) 0 s m bytes inputs (omega arith) (omega arith) u whole b
