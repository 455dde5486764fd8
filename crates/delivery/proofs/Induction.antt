-- A message's FPDUs from a place of it on, received one after the other: by induction over how many may be left, for any message
-- that is cut so, from what its last FPDU does and what another one does.
use Prim.Native.Nat.{ℕ, zero, suc, ◌+◌, ◌-◌, ◌≤◌, ◌<◌}
use mathlib.Core.Path.{◌≡◌, refl, sym, ap, ap₂, subst, ◌∙◌}
use mathlib.Core.Bool.{Bool, true, false}
use mathlib.Core.List.{List, [], ◌∷◌, ◌++◌, append-nil}
use native.Mathlib.Omega.{arith}
use lib.ListN.{length, drop, length-append}
use Rattle.wire.specs.Wire.{part, put}
use Rattle.wire.proofs.Laws.{put-put, length-put}
use Rattle.ddp.specs.Segment.{segment_read}
use Rattle.rdmap.specs.declared.stream.Stream.{Stream}
use Rattle.meter.specs.Gauge.{counted_meter}
use Rattle.meter.specs.declared.Meter.{Meter}
use Rattle.domain.specs.Domain.{with_stream, with_meter}
use Rattle.domain.specs.declared.Domain.{Domain}
use Rattle.arrival.specs.declared.Event.{Event}
use Rattle.arrival.specs.declared.Answer.TheVariants.{Taken}
use Rattle.sender.specs.Cut.{piece_of, ends_in}
use Rattle.delivery.specs.Delivery.{Begin, Outcome, answering, received_all, payload_in, payloads, event_then, answers_of}
use Rattle.delivery.proofs.Cut.{piece_more, piece_long, last-part, piece_joined}
use Rattle.delivery.proofs.Steps.{outcome_path}
use Rattle.delivery.proofs.Counted.{counted_twice}
use Rattle.std.specs.Prelude.{None, Ok, Option}

begin_none : (inputs : List (List ℕ)) → Begin inputs [] → inputs ≡ []
begin_none [] b = refl
begin_none (i ∷ is) b = absurd b

module _ (room : ℕ) (pos : 1 ≤ room) (message : List ℕ) where
  abbrev pub size_at : ℕ → ℕ
  size_at at = piece_of room (length message - at)

  abbrev pub last_at : ℕ → Bool
  last_at at = ends_in room (length message - at)

  abbrev pub payload_at : ℕ → List ℕ
  payload_at at = part message at (size_at at)

  -- after one that is not the last, some of the message is left
  less : (at : ℕ) → last_at at ≡ false → (at + size_at at < length message) × (1 ≤ size_at at)
  less at e = let m = piece_more room (length message - at) e in (omega (arith, m.0, m.1), omega (arith, m.0))

  -- the FPDUs from a place on: one, and those after it
  module _
      (fpdu_at : ℕ → List ℕ) (fpdus_from : ℕ → ℕ → Bool → List (List ℕ))
      (first_of : (most at : ℕ) → fpdus_from (suc most) at false ≡ fpdu_at at ∷ fpdus_from most (at + size_at at) (last_at at))
      (none_after : (most at : ℕ) → fpdus_from most at true ≡ [])
    where
      some_after : (most at : ℕ) (e : Option Event) → 0 < most → event_then e (fpdus_from most at false) ≡ None
      some_after zero at e h = absurd (omega arith)
      some_after (suc most) at e h = ap (event_then e) (first_of most at)

      -- where all of the message may be cut, it is: more segments than that are not to be had
      abbrev Enough : ℕ → Type 0
      Enough most = (more at : ℕ) → at ≤ length message → length message < at + most → length message < at + more → fpdus_from most at false ≡ fpdus_from more at false

      pub enough : (most : ℕ) → Enough most
      enough zero more at h f g = absurd (omega arith)
      enough (suc most) zero at h f g = absurd (omega arith)
      enough (suc most) (suc more) at h f g =
          first_of most at ∙ ap (λ (fs : List (List ℕ)). fpdu_at at ∷ fs) (go (enough most) (last_at at) refl) ∙ sym (first_of more at)
        where
          go : Enough most → (t : Bool) → last_at at ≡ t → fpdus_from most (at + size_at at) t ≡ fpdus_from more (at + size_at at) t
          go others true e = none_after most (at + size_at at) ∙ sym (none_after more (at + size_at at))
          go others false e = let l = less at e in others more (at + size_at at) (omega (arith, l.0)) (omega (arith, l.1)) (omega (arith, l.1))

      -- the payloads, joined, are the message
      module _ (crc : Bool) (carried : (at : ℕ) (rest : List ℕ) → at ≤ length message → payload_in (fpdu_at at ++ rest) (segment_read crc (fpdu_at at ++ rest)) ≡ payload_at at) where
        abbrev Joined : ℕ → Type 0
        Joined most = (at : ℕ) (inputs : List (List ℕ)) → at ≤ length message → length message < at + most → Begin inputs (fpdus_from most at false) → payloads crc inputs ≡ drop at message

        pub joined : (most : ℕ) → Joined most
        unfolding payloads
        joined zero at inputs h fuel b = absurd (omega arith)
        joined (suc most) at inputs h fuel b = go (joined most) inputs (last_at at) refl (subst (Begin inputs) (first_of most at) b)
          where
            go : Joined most → (inputs : List (List ℕ)) (t : Bool) → last_at at ≡ t → Begin inputs (fpdu_at at ∷ fpdus_from most (at + size_at at) t) → payloads crc inputs ≡ drop at message
            go next [] t e b = absurd b
            go next (input ∷ inputs) true e b =
                ap₂ (λ (i : List ℕ) (is : List (List ℕ)). payloads crc (i ∷ is)) b.0.1 (begin_none inputs (subst (Begin inputs) (none_after most (at + size_at at)) b.1))
                ∙ ap (λ (l : List ℕ). l ++ []) (carried at b.0.0 h ∙ last-part room message at h e)
                ∙ append-nil (drop at message)
            go next (input ∷ inputs) false e b =
                let l = less at e in
                ap (λ (i : List ℕ). payloads crc (i ∷ inputs)) b.0.1
                ∙ ap₂ (λ (x y : List ℕ). x ++ y) (carried at b.0.0 h) (next (at + size_at at) inputs (omega (arith, l.0)) (omega (arith, l.1)) b.1)
                ∙ piece_joined room message at h

      -- received by a domain's stream, of which Inv holds where so many bytes are taken: the next stream, and of a stream the event, the
      -- domain at the end, but for its meter, and where the message goes
      module _
          (d : Domain) (number slot : ℕ) (Inv : Stream → ℕ → Type 0) (next : Stream → ℕ → Stream)
          (event : Stream → Option Event) (final : Stream → Domain) (base : Stream → ℕ)
        where
          -- the domain before one of them, with this stream and this meter
          abbrev pub before : Stream → Meter → Domain
          before s m = with_meter (with_stream d slot s) m

          abbrev pub outcome_of : Stream → Meter → ℕ → List ℕ → List (List ℕ) → Outcome
          outcome_of s m at bytes fs = record {
            answers = answers_of (event s) fs;
            domain = with_meter (final s) (counted_meter m (length (drop at message)));
            bytes = put bytes (base s + at) (drop at message);
          }

          abbrev pub Whole : List ℕ → Type 0
          Whole bytes = length bytes ≡ d.part.end - d.part.start

          -- what the last one does
          abbrev pub Last : Type 0
          Last =
              (s : Stream) (m : Meter) (at : ℕ) (bytes rest : List ℕ) → at ≤ length message → Inv s at → Whole bytes → last_at at ≡ true →
              received_all (before s m) number slot bytes ((fpdu_at at ++ rest) ∷ []) ≡ outcome_of s m at bytes (fpdu_at at ∷ [])

          -- what another one does
          abbrev pub More : Type 0
          More =
              (s : Stream) (m : Meter) (at : ℕ) (bytes rest : List ℕ) → at ≤ length message → Inv s at → Whole bytes → last_at at ≡ false → (inputs : List (List ℕ)) →
              received_all (before s m) number slot bytes ((fpdu_at at ++ rest) ∷ inputs)
              ≡ answering (Ok (Taken (length (fpdu_at at)) None))
              (received_all (before (next s at) (counted_meter m (length (payload_at at)))) number slot (put bytes (base s + at) (payload_at at)) inputs)

          -- the stream after it
          pub record Kept (s : Stream) (at : ℕ) : Type 0 where
            pub inv : Inv (next s at) (at + size_at at)
            pub event-same : event (next s at) ≡ event s
            pub final_same : final (next s at) ≡ final s
            pub base_same : base (next s at) ≡ base s
            pub fits : base s + (at + size_at at) ≤ d.part.end - d.part.start

          module _ (last_one : Last) (one_more : More) (kept : (s : Stream) (at : ℕ) → at ≤ length message → Inv s at → last_at at ≡ false → Kept s at) where
            abbrev Received : ℕ → Type 0
            Received most =
                (at : ℕ) (s : Stream) (m : Meter) (bytes : List ℕ) (inputs : List (List ℕ)) → at ≤ length message → length message < at + most → Inv s at → Whole bytes →
                Begin inputs (fpdus_from most at false) → received_all (before s m) number slot bytes inputs ≡ outcome_of s m at bytes (fpdus_from most at false)

            -- its payload, and then the others
            both-put :
                (s : Stream) (at : ℕ) (bytes : List ℕ) → at ≤ length message → Whole bytes → Kept s at →
                put (put bytes (base s + at) (payload_at at)) (base (next s at) + (at + size_at at)) (drop (at + size_at at) message) ≡ put bytes (base s + at) (drop at message)
            both-put s at bytes h whole k =
                let place : base (next s at) + (at + size_at at) ≡ base s + at + length (payload_at at) = omega (arith, k.base_same, piece_long room message at h) in
                ap (λ (n : ℕ). put (put bytes (base s + at) (payload_at at)) n (drop (at + size_at at) message)) place
                ∙ put-put bytes (base s + at) (payload_at at) (drop (at + size_at at) message) (omega (arith, k.fits))
                ∙ ap (put bytes (base s + at)) (piece_joined room message at h)

            still-whole : (s : Stream) (at : ℕ) (bytes : List ℕ) → at ≤ length message → Whole bytes → Kept s at → Whole (put bytes (base s + at) (payload_at at))
            still-whole s at bytes h whole k = length-put bytes (base s + at) (payload_at at) (omega (arith, k.fits, piece_long room message at h)) ∙ whole

            both-counted :
                (s : Stream) (m : Meter) (at : ℕ) → at ≤ length message → Kept s at →
                with_meter (final (next s at)) (counted_meter (counted_meter m (length (payload_at at))) (length (drop (at + size_at at) message)))
                ≡ with_meter (final s) (counted_meter m (length (drop at message)))
            both-counted s m at h k =
                ap₂ (λ (x : Domain) (y : Meter). with_meter x y) k.final_same
                (counted_twice m (length (payload_at at)) (length (drop (at + size_at at) message)) (length (drop at message))
                (sym (length-append (payload_at at) (drop (at + size_at at) message)) ∙ ap length (piece_joined room message at h)))

            pub received : (most : ℕ) → Received most
            unfolding answers_of
            received zero at s m bytes inputs h fuel u whole b = absurd (omega arith)
            received (suc most) at s m bytes inputs h fuel u whole b =
                rw (first_of most at) (go (received most) inputs (last_at at) refl (subst (Begin inputs) (first_of most at) b))
              where
                go :
                    Received most → (inputs : List (List ℕ)) (t : Bool) → last_at at ≡ t → Begin inputs (fpdu_at at ∷ fpdus_from most (at + size_at at) t) →
                    received_all (before s m) number slot bytes inputs ≡ outcome_of s m at bytes (fpdu_at at ∷ fpdus_from most (at + size_at at) t)
                go others [] t e b = absurd b
                go others (input ∷ inputs) true e b =
                    let no_more : fpdus_from most (at + size_at at) true ≡ [] = none_after most (at + size_at at) in
                    ap₂ (λ (i : List ℕ) (is : List (List ℕ)). received_all (before s m) number slot bytes (i ∷ is)) b.0.1 (begin_none inputs (subst (Begin inputs) no_more b.1))
                    ∙ last_one s m at bytes b.0.0 h u whole e
                    ∙ ap (λ (fs : List (List ℕ)). outcome_of s m at bytes (fpdu_at at ∷ fs)) (sym no_more)
                go others (input ∷ inputs) false e b =
                    let k : Kept s at = kept s at h u e in
                    let l = less at e in
                    let n : ℕ = at + size_at at in
                    ap (λ (i : List ℕ). received_all (before s m) number slot bytes (i ∷ inputs)) b.0.1
                    ∙ one_more s m at bytes b.0.0 h u whole e inputs
                    ∙ ap (answering (Ok (Taken (length (fpdu_at at)) None)))
                    (others n (next s at) (counted_meter m (length (payload_at at))) (put bytes (base s + at) (payload_at at)) inputs (omega (arith, l.0)) (omega (arith, l.1)) k.inv (still-whole s at bytes h whole k) b.1)
                    ∙ outcome_path
                    (ap₂ (λ (v w : Option Event). Ok (Taken (length (fpdu_at at)) v) ∷ answers_of w (fpdus_from most n false)) (sym (some_after most n (event s) (omega (arith, l.0)))) k.event-same)
                    (both-counted s m at h k)
                    (both-put s at bytes h whole k)
