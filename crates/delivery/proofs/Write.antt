-- A Write's FPDUs, received one after the other by an open stream, where a window of the domain covers them.
use Prim.Native.Nat.{ℕ, zero, suc, ◌+◌, ◌-◌, ◌%◌, ◌≤◌, ◌<◌}
use mathlib.Core.Path.{◌≡◌, refl, sym, ap, ◌∙◌}
use mathlib.Core.Bool.{Bool, true, false}
use mathlib.Core.List.{List, [], ◌∷◌, ◌++◌}
use native.Mathlib.Omega.{arith}
use lib.ListN.{length, drop, length-append}
use Rattle.wire.specs.Wire.{part, put}
use Rattle.mpa.specs.Fpdu.{max_ulpdu, total_of, fpdu_of}
use Rattle.mpa.proofs.Frames.{length_fpdu}
use Rattle.memory.specs.Window.{window_at, slot_named}
use Rattle.memory.specs.declared.window.Window.{Window}
use Rattle.ddp.specs.Header.{tagged_bytes}
use Rattle.ddp.specs.Segment.{segment_read}
use Rattle.ddp.specs.declared.header.TaggedHeader.{TaggedHeader}
use Rattle.ddp.specs.declared.segment.SegmentRead.TheVariants.{Tagged as TaggedSegment}
use Rattle.ddp.proofs.Round.{tagged_length}
use Rattle.rdmap.specs.Phase.{readiness}
use Rattle.rdmap.specs.declared.stream.Stream.{Stream}
use Rattle.meter.specs.Gauge.{counted_meter}
use Rattle.meter.specs.declared.Meter.{Meter}
use Rattle.domain.specs.Domain.{with_stream, with_meter}
use Rattle.domain.specs.declared.Domain.{Domain}
use Rattle.arrival.specs.declared.Answer.TheVariants.{Taken}
use Rattle.sender.specs.Cut.{piece_of, ends_in}
use Rattle.sender.specs.Message.{max32, header_bytes, segment_bytes, advanced, segments_of}
use Rattle.sender.specs.declared.Message.{Message}
use Rattle.delivery.specs.Delivery.{framed, Begin, Outcome, answering, received_all, payload_in, payloads, answers_of}
use Rattle.delivery.specs.Promise.{Covers}
use Rattle.delivery.proofs.Cut.{piece_more, piece_le, piece_fits, piece_long, last-part}
use Rattle.delivery.proofs.Framed.{tagged_framed, tagged_payload}
use Rattle.delivery.proofs.Tagged.{write_header, write_answered, write-placed}
use Rattle.delivery.proofs.Steps.{outcome_path, received-next}
use Rattle.delivery.proofs.Induction.{enough, received, joined}
use Rattle.std.specs.Prelude.{None, Ok}

-- a Write's message, so many bytes of it written
abbrev pub write_at : (limit stag to len at : ℕ) (done : Bool) → Message
write_at limit stag to len at done =
    record { tagged = true; opcode = 0; stag = stag; to = to; msn = 0; limit = limit; len = len; at = at; done = done }

module _
    (limit stag to : ℕ) (message : List ℕ)
    (low : 19 ≤ limit) (high : limit ≤ max_ulpdu) (s32 : stag ≤ max32) (fits : to + length message ≤ 18446744073709551616)
  where
    room : 1 ≤ limit - 14
    room = omega arith

    abbrev size_at : ℕ → ℕ
    size_at at = piece_of (limit - 14) (length message - at)

    abbrev last_at : ℕ → Bool
    last_at at = ends_in (limit - 14) (length message - at)

    abbrev payload_at : ℕ → List ℕ
    payload_at at = part message at (size_at at)

    abbrev to_at : ℕ → ℕ
    to_at at = (to + at) % 18446744073709551616

    abbrev header_at : ℕ → TaggedHeader
    header_at at = write_header (last_at at) stag (to_at at)

    abbrev fpdu_at : ℕ → List ℕ
    fpdu_at at = fpdu_of (tagged_bytes (header_at at) ++ payload_at at)

    -- the FPDUs from a place on: one, and those after it
    abbrev fpdus_from : ℕ → ℕ → Bool → List (List ℕ)
    fpdus_from most at done = framed (segments_of most (write_at limit stag to (length message) at done) message)

    first_of : (most at : ℕ) → fpdus_from (suc most) at false ≡ fpdu_at at ∷ fpdus_from most (at + size_at at) (last_at at)
    unfolding framed segments_of segment_bytes header_bytes advanced
    first_of most at = refl

    none_after : (most at : ℕ) → fpdus_from most at true ≡ []
    unfolding framed segments_of
    none_after zero at = refl
    none_after (suc most) at = refl

    -- what the receiver reads
    module _ (at : ℕ) (h : at ≤ length message) where
      long : length (payload_at at) ≡ size_at at
      long = piece_long (limit - 14) message at h

      total : length (fpdu_at at) ≡ total_of (14 + length (payload_at at))
      total =
          length_fpdu (tagged_bytes (header_at at) ++ payload_at at)
          ∙ ap total_of (length-append (tagged_bytes (header_at at)) (payload_at at) ∙ ap (λ (n : ℕ). n + length (payload_at at)) (tagged_length (header_at at)))

      carried : (crc : Bool) (rest : List ℕ) → segment_read crc (fpdu_at at ++ rest) ≡ Ok (TaggedSegment (length (fpdu_at at)) (header_at at) 16 (length (payload_at at)))
      carried crc rest =
          tagged_framed crc (header_at at) (payload_at at) rest (omega arith) (omega arith)
          (omega (arith, long, (piece_le (limit - 14) (length message - at)).1))
          ∙ ap (λ (n : ℕ). Ok (TaggedSegment n (header_at at) 16 (length (payload_at at)))) (sym total)

      there : (rest : List ℕ) → part (fpdu_at at ++ rest) 16 (length (payload_at at)) ≡ payload_at at
      there rest = tagged_payload true (header_at at) (payload_at at) rest

      -- the payload ends in the message, and where it has a byte its TO is no larger than the field
      ends : at + length (payload_at at) ≤ length message
      ends = omega (arith, long, piece_fits (limit - 14) message at h)

      to_is : 0 < length (payload_at at) → to_at at ≡ to + at
      to_is l = omega (arith, ends)

    pub write-enough : (most : ℕ) → length message < most → fpdus_from most 0 false ≡ fpdus_from (suc (length message)) 0 false
    write-enough most h = enough (limit - 14) room message fpdu_at fpdus_from first_of none_after most (suc (length message)) 0 (omega arith) (omega arith) (omega arith)

    pub write-joined :
        (crc : Bool) (inputs : List (List ℕ)) → Begin inputs (fpdus_from (suc (length message)) 0 false) → payloads crc inputs ≡ message
    write-joined crc inputs b =
        joined (limit - 14) room message fpdu_at fpdus_from first_of none_after crc
        (λ at rest h. ap (payload_in (fpdu_at at ++ rest)) (carried at h crc rest) ∙ there at h rest)
        (suc (length message)) 0 inputs (omega arith) (omega arith) b

    module _
        (d : Domain) (number slot : ℕ) (inside : slot < 4) (four : length d.streams ≡ 4)
        (covers : 0 < length message → Covers (window_at d.windows (slot_named stag)) number stag to (length message))
        (lies : 0 < length message → (d.part.start ≤ (window_at d.windows (slot_named stag)).place) × ((window_at d.windows (slot_named stag)).place + (window_at d.windows (slot_named stag)).len ≤ d.part.end))
      where
        abbrev named : Window
        named = window_at d.windows (slot_named stag)

        -- where the message goes
        abbrev base : ℕ
        base = named.place + (to - named.base) - d.part.start

        abbrev outcome_at : Stream → Meter → ℕ → List ℕ → List (List ℕ) → Outcome
        outcome_at s m at bytes fs = record {
          answers = answers_of None fs;
          domain = with_meter (with_stream d slot s) (counted_meter m (length (drop at message)));
          bytes = put bytes (base + at) (drop at message);
        }

        module _ (at : ℕ) (h : at ≤ length message) where
          covered : 0 < length (payload_at at) → (to_at at + length (payload_at at) ≤ 18446744073709551616) × Covers named number stag (to_at at) (length (payload_at at))
          covered l =
              let c = covers (omega (arith, ends at h)) in
              let e = to_is at h l in (
                omega (arith, e, ends at h),
                record { found = c.found; may = c.may; above = omega (arith, e, c.above); below = omega (arith, e, c.below, ends at h) },
              )

          place_is : 0 < length (payload_at at) → named.place + (to_at at - named.base) - d.part.start ≡ base + at
          place_is l =
              let c = covers (omega (arith, ends at h)) in
              let z = lies (omega (arith, ends at h)) in
              omega (arith, to_is at h l, c.above, z.0)

          module _ (s : Stream) (m : Meter) (ready : readiness s.phase ≡ (Ok tt)) (bytes rest : List ℕ) (whole : length bytes ≡ d.part.end - d.part.start) where
            -- any one of them
            one :
                (inputs : List (List ℕ)) →
                received_all (with_meter (with_stream d slot s) m) number slot bytes ((fpdu_at at ++ rest) ∷ inputs)
                ≡ answering (Ok (Taken (length (fpdu_at at)) None))
                (received_all (with_meter (with_stream d slot s) (counted_meter m (length (payload_at at)))) number slot (put bytes (base + at) (payload_at at)) inputs)
            one inputs =
                let input : List ℕ = fpdu_at at ++ rest in
                received-next (with_meter d m) number slot inside four s input bytes (put bytes (base + at) (payload_at at)) _ _ inputs (carried at h s.framing.crc rest)
                (write_answered d.part d.windows number s input bytes (length (fpdu_at at)) 16 stag (to_at at) (base + at) (last_at at) ready (payload_at at) covered (carried at h s.framing.crc rest) (there at h rest))
                (write-placed d.part d.windows number s input bytes (length (fpdu_at at)) 16 stag (to_at at) (base + at) (last_at at) ready (payload_at at) whole covered (λ l. lies (omega (arith, ends at h))) place_is (carried at h s.framing.crc rest) (there at h rest))

            last_one :
                last_at at ≡ true →
                received_all (with_meter (with_stream d slot s) m) number slot bytes ((fpdu_at at ++ rest) ∷ []) ≡ outcome_at s m at bytes (fpdu_at at ∷ [])
            unfolding received_all answers_of
            last_one e =
                let all = last-part (limit - 14) message at h e in
                one [] ∙ outcome_path refl (ap (λ (l : List ℕ). with_meter (with_stream d slot s) (counted_meter m (length l))) all) (ap (put bytes (base + at)) all)

          in_part_lem : last_at at ≡ false → base + (at + size_at at) ≤ d.part.end - d.part.start
          in_part_lem e =
              let m = piece_more (limit - 14) (length message - at) e in
              let c = covers (omega (arith, m.1)) in
              let z = lies (omega (arith, m.1)) in
              omega (arith, piece_fits (limit - 14) message at h, c.above, c.below, z.0, z.1)

        pub write-received :
            (s : Stream) (m : Meter) (bytes : List ℕ) (inputs : List (List ℕ)) → readiness s.phase ≡ (Ok tt) → length bytes ≡ d.part.end - d.part.start →
            Begin inputs (fpdus_from (suc (length message)) 0 false) →
            received_all (with_meter (with_stream d slot s) m) number slot bytes inputs ≡ outcome_at s m 0 bytes (fpdus_from (suc (length message)) 0 false)
        write-received s m bytes inputs ready whole b =
            received (limit - 14) room message fpdu_at fpdus_from first_of none_after d number slot
            (λ (s : Stream) (at : ℕ). readiness s.phase ≡ (Ok tt)) (λ (s : Stream) (at : ℕ). s) (λ (s : Stream). None) (λ (s : Stream). with_stream d slot s) (λ (s : Stream). base)
            (λ s m at bytes rest h u whole e. last_one at h s m u bytes rest whole e) (λ s m at bytes rest h u whole e inputs. one at h s m u bytes rest whole inputs)
            (λ s at h u e. record { inv = u; event-same = refl; final_same = refl; base_same = refl; fits = in_part_lem at h e })
            (suc (length message)) 0 s m bytes inputs (omega arith) (omega arith) ready whole b
