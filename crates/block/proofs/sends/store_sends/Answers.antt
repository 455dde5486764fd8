-- `store_sends` meets its contract: what is put there is what stands there, and it decodes to what was encoded.
use Prim.Native.Nat.{ℕ, ◌+◌}
use mathlib.Core.List.{List}
use mathlib.Core.Path.{ap, ap₂, ◌∙◌}
use native.Mathlib.Omega.{arith}
use borrow.Author.Rules.{rules}
use Rattle.wire.specs.Wire.{put}
use Rattle.block.specs.Stream.{loaded_sends}
use Rattle.block.proofs.Back.{sends_stored}
use Rattle.block.proofs.sends.store_sends.Goals as goal

pub returns : goal.returns
returns c =
    let a = c.args in
    let after = c.copy.ensures ∙ ap₂ (λ (at : ℕ) (g : List ℕ). put a.words.now (at + 3) g) c.stream_offset.ensures c.encode-group.ensures.0 in
    (after, ap (λ (w : List ℕ). loaded_sends w a.domain a.slot) after ∙ sends_stored a.words.now a.domain a.slot a.s (omega arith) c.encode-group.ensures.1, search rules)
