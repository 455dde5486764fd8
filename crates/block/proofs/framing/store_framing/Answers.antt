-- `store_framing` meets its contract: what is put there is what stands there, and it decodes to what was encoded.
use Prim.Native.Nat.{ℕ, ◌+◌}
use mathlib.Core.List.{List, [], ◌∷◌}
use mathlib.Core.Path.{ap, ap₂, ◌∙◌}
use native.Mathlib.Omega.{arith}
use borrow.Author.Rules.{rules}
use Rattle.wire.specs.Wire.{put}
use Rattle.block.specs.Stream.{loaded_framing}
use Rattle.block.proofs.Back.{framing_stored}
use Rattle.block.proofs.framing.store_framing.Goals as goal

pub returns : goal.returns
returns c =
    let a = c.args in
    let after = c.store_word.ensures ∙ ap₂ (λ (at x : ℕ). put a.words.now (at + 1) (x ∷ [])) c.stream_offset-at.ensures c.encode.ensures.0 in
    (after, ap (λ (w : List ℕ). loaded_framing w a.domain a.slot) after ∙ framing_stored a.words.now a.domain a.slot a.f (omega arith) c.encode.ensures.1, search rules)
