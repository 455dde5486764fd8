-- The groups of a stream stored one after another: the stream's words are put, and the stream is loaded from them.
use Prim.Native.Nat.{ℕ, ◌+◌, ◌≤◌}
use mathlib.Core.List.{List, ◌++◌}
use mathlib.Core.Path.{◌≡◌, ap, ap₂, ◌∙◌}
use native.Mathlib.Omega.{arith}
use lib.ListN.{length}
use Rattle.wire.specs.Wire.{put}
use Rattle.wire.proofs.Laws.{length-put, put-put}
use Rattle.rdmap.specs.Stream.{in_phase, with_sends, with_reads, with_framing}
use Rattle.rdmap.specs.declared.phase.Phase.{Phase}
use Rattle.rdmap.specs.declared.stream.Stream.{Stream}
use Rattle.block.specs.Layout.{stream_offset, framing_offset, terminates_offset, sends_offset, reads_offset}
use Rattle.block.specs.Queue.{sends_words, reads_words, terminates_words}
use Rattle.block.specs.Stream.{phase_words, framing_words, loaded_phase, loaded_framing, loaded_terminates, loaded_sends, loaded_reads, loaded_stream, stored_phase, stored_framing, stored_terminates, stored_sends, stored_reads, stored_stream}
use Rattle.block.specs.Exchange.{with_terminates}
use Rattle.block.proofs.Exchanged.{phase_alone, framing_alone, terminates_alone, sends_alone, reads_alone}
use Rattle.block.proofs.Stored.{outside}

module _ (w : List ℕ) (d j : ℕ) (s : Stream) (long : stream_offset d j + 46 ≤ length w) (v₁ v₂ v₃ v₄ v₅ : List ℕ) (is₁ : v₁ ≡ stored_phase w d j s.phase) (is₂ : v₂ ≡ stored_framing v₁ d j s.framing) (is₃ : v₃ ≡ stored_terminates v₂ d j s.terminates) (is₄ : v₄ ≡ stored_sends v₃ d j s.sends) (is₅ : v₅ ≡ stored_reads v₄ d j s.reads) where
  -- the stores, joined one by one
  stream-put : v₅ ≡ stored_stream w d j s
  stream-put =
      let p = phase_words s.phase in
      let f = framing_words s.framing in
      let t = terminates_words s.terminates in
      let n = sends_words s.sends in
      let r = reads_words s.reads in
      let o = stream_offset d j in
      let two : v₂ ≡ put w o (p ++ f) = is₂ ∙ ap (λ (l : List ℕ). put l (o + 1) f) is₁ ∙ put-put w o p f (omega arith) in
      let three : v₃ ≡ put w o ((p ++ f) ++ t) = is₃ ∙ ap (λ (l : List ℕ). put l (o + 2) t) two ∙ put-put w o (p ++ f) t (omega arith) in
      let four : v₄ ≡ put w o (((p ++ f) ++ t) ++ n) = is₄ ∙ ap (λ (l : List ℕ). put l (o + 3) n) three ∙ put-put w o ((p ++ f) ++ t) n (omega arith) in
      is₅ ∙ ap (λ (l : List ℕ). put l (o + 13) r) four ∙ put-put w o (((p ++ f) ++ t) ++ n) r (omega arith)

  -- each store leaves the groups that were stored before it
  pub stream_stored : loaded_phase v₁ d j ≡ s.phase → loaded_framing v₂ d j ≡ s.framing → loaded_terminates v₃ d j ≡ s.terminates → loaded_sends v₄ d j ≡ s.sends → loaded_reads v₅ d j ≡ s.reads → (v₅ ≡ stored_stream w d j s) × (loaded_stream v₅ d j ≡ s)
  stream_stored e₁ e₂ e₃ e₄ e₅ =
      let l₁ : length v₁ ≡ length w = ap length is₁ ∙ length-put w (stream_offset d j) (phase_words s.phase) (omega arith) in
      let l₂ : length v₂ ≡ length v₁ = ap length is₂ ∙ length-put v₁ (framing_offset d j) (framing_words s.framing) (omega arith) in
      let l₃ : length v₃ ≡ length v₂ = ap length is₃ ∙ length-put v₂ (terminates_offset d j) (terminates_words s.terminates) (omega arith) in
      let l₄ : length v₄ ≡ length v₃ = ap length is₄ ∙ length-put v₃ (sends_offset d j) (sends_words s.sends) (omega arith) in
      let g₁ : loaded_stream v₁ d j ≡ in_phase (loaded_stream w d j) s.phase =
      phase_alone w v₁ d j (outside w v₁ (stream_offset d j) (phase_words s.phase) (omega arith) is₁) ∙ ap (λ (x : Phase). in_phase (loaded_stream w d j) x) e₁
      in
      let g₂ = framing_alone v₁ v₂ d j (outside v₁ v₂ (framing_offset d j) (framing_words s.framing) (omega arith) is₂) ∙ ap₂ with_framing g₁ e₂ in
      let g₃ = terminates_alone v₂ v₃ d j (outside v₂ v₃ (terminates_offset d j) (terminates_words s.terminates) (omega arith) is₃) ∙ ap₂ with_terminates g₂ e₃ in
      let g₄ = sends_alone v₃ v₄ d j (outside v₃ v₄ (sends_offset d j) (sends_words s.sends) (omega arith) is₄) ∙ ap₂ with_sends g₃ e₄ in
      (stream-put, reads_alone v₄ v₅ d j (outside v₄ v₅ (reads_offset d j) (reads_words s.reads) (omega arith) is₅) ∙ ap₂ with_reads g₄ e₅)
