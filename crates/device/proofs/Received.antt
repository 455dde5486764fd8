-- Receive on the stream of a domain's slot of a block: a stream that is not ready is left, and of a ready one the first segment decides.
use Prim.Native.Nat.{ℕ, ◌<◌}
use mathlib.Core.List.{List}
use mathlib.Core.Path.{◌≡◌, refl, sym, ap, subst, ◌∙◌}
use Rattle.memory.specs.declared.part.Part.{Part}
use Rattle.ddp.specs.Segment.{segment_read}
use Rattle.ddp.specs.declared.segment.SegmentRead.{SegmentRead}
use Rattle.rdmap.specs.Phase.{readiness}
use Rattle.rdmap.specs.declared.framing.Framing.{Framing}
use Rattle.rdmap.specs.declared.stream.Stream.{Stream}
use Rattle.memory.specs.declared.window.Window.{Window}
use Rattle.arrival.specs.Parts.{parts_answered, parts_judged, parts_placed, parts_when, parts_bytes_when, parts_received, parts_received_bytes}
use Rattle.arrival.specs.declared.Answer.{Answer}
use Rattle.arrival.specs.declared.parts.PartsReceived.{PartsReceived}
use Rattle.rnic.specs.Rnic.{domain_at}
use Rattle.calls.specs.Words.{refused_words, answer_words}
use Rattle.rnic.specs.declared.Rnic.{Rnic}
use Rattle.block.specs.Stream.{loaded_phase, loaded_framing}
use Rattle.block.specs.Device.{rnic_at}
use Rattle.block.specs.Exchange.{stream_of}
use Rattle.device.specs.Lifted.{counted_of}
use Rattle.slots.proofs.Slots.{stream-kept, phase_of_lem, framing_of}
use Rattle.std.specs.Prelude.{Err, Ok, Result, ⊤}
use Rattle.ddp.specs.declared.refusal.Refusal.{Refusal}
use Rattle.wire.specs.declared.refusal.LocalRefusal.{LocalRefusal}

-- what is not refused is ready
pub ready_otherwise : (r : Result ⊤ LocalRefusal) → ((k : LocalRefusal) → r ≡ Err k → ⊥) → r ≡ Ok tt
ready_otherwise (Ok tt) h = refl
ready_otherwise (Err k) h = absurd (h k refl)

module _ (w : List ℕ) (d j : ℕ) (p : Part) (input mem : List ℕ) where
  abbrev b : Rnic
  b = rnic_at w

  abbrev s : Stream
  s = stream_of b d j

  abbrev ws : List Window
  ws = (domain_at b d).windows

  -- what is answered, the block after it and the domain's bytes, of the first segment x
  abbrev pub FirstAs : Result SegmentRead Refusal → Result Answer LocalRefusal → List ℕ → List ℕ → Type 0
  FirstAs x a v after =
      (a ≡ (parts_answered s (parts_judged ws d s input x)).answer)
      × (rnic_at v ≡ counted_of b d j x (parts_answered s (parts_judged ws d s input x)))
      × (after ≡ parts_placed p ws d s input mem x)

  pub first_told : {x y : Result SegmentRead Refusal} {a : Result Answer LocalRefusal} {after : List ℕ} (v : List ℕ) → x ≡ y → FirstAs x a v after → FirstAs y a v after
  first_told {a = a} {after = after} v e h = subst (λ (z : Result SegmentRead Refusal). FirstAs z a v after) e h

  -- and with the words of the answer
  abbrev pub FirstWords : Result SegmentRead Refusal → List ℕ → List ℕ → List ℕ → Type 0
  FirstWords x l v after =
      (l ≡ answer_words (parts_answered s (parts_judged ws d s input x)).answer)
      × (rnic_at v ≡ counted_of b d j x (parts_answered s (parts_judged ws d s input x)))
      × (after ≡ parts_placed p ws d s input mem x)

  -- and of the whole call
  abbrev pub ReceivedAs : List ℕ → List ℕ → List ℕ → Type 0
  ReceivedAs l v after =
      (l ≡ answer_words (parts_received ws d s input).answer)
      × (rnic_at v ≡ counted_of b d j (segment_read s.framing.crc input) (parts_received ws d s input))
      × (after ≡ parts_received_bytes p ws d s input mem)

  module _ (hd : d < 4) (hj : j < 4) where
    when : (r : Result ⊤ LocalRefusal) → readiness (loaded_phase w d j) ≡ r → parts_received ws d s input ≡ parts_when ws d s input r
    unfolding parts_received
    when r e = ap (parts_when ws d s input) (ap readiness (phase_of_lem w d j hd hj) ∙ e)

    bytes_when : (r : Result ⊤ LocalRefusal) → readiness (loaded_phase w d j) ≡ r → parts_received_bytes p ws d s input mem ≡ parts_bytes_when p ws d s input mem r
    unfolding parts_received_bytes
    bytes_when r e = ap (parts_bytes_when p ws d s input mem) (ap readiness (phase_of_lem w d j hd hj) ∙ e)

    pub not-ready : (k : LocalRefusal) → readiness (loaded_phase w d j) ≡ Err k → ReceivedAs (refused_words k) w mem
    not-ready k e =
        let t = when (Err k) e in
        (sym (ap (λ (x : PartsReceived). answer_words x.answer) t), sym (ap (λ (x : PartsReceived). counted_of b d j (segment_read s.framing.crc input) x) t ∙ stream-kept b d j), sym (bytes_when (Err k) e))

    pub is-ready : {l after : List ℕ} (v : List ℕ) (f : Framing) → readiness (loaded_phase w d j) ≡ (Ok tt) → f ≡ loaded_framing w d j → FirstWords (segment_read f.crc input) l v after → ReceivedAs l v after
    is-ready {l = l} {after = after} v f e g h =
        let crc = ap (λ (x : Framing). segment_read x.crc input) (g ∙ sym (framing_of w d j hd hj)) in
        let first : FirstWords (segment_read s.framing.crc input) l v after = subst (λ (z : Result SegmentRead Refusal). FirstWords z l v after) crc h in
        let t = when (Ok tt) e in (
          first.0 ∙ sym (ap (λ (x : PartsReceived). answer_words x.answer) t),
          first.1 ∙ sym (ap (λ (x : PartsReceived). counted_of b d j (segment_read s.framing.crc input) x) t),
          first.2 ∙ sym (bytes_when (Ok tt) e),
        )
