-- `store_window` meets its contract: what is put there is what stands there, and it decodes to what was encoded.
use Prim.Native.Nat.{ℕ}
use mathlib.Core.List.{List}
use mathlib.Core.Path.{ap, ap₂, ◌∙◌}
use native.Mathlib.Omega.{arith}
use borrow.Author.Rules.{rules}
use Rattle.wire.specs.Wire.{put}
use Rattle.block.specs.Device.{loaded_window}
use Rattle.block.proofs.Back.{window_stored}
use Rattle.block.proofs.window.store_window.Goals as goal

pub returns : goal.returns
returns c =
    let a = c.args in
    let after = c.copy.ensures ∙ ap₂ (λ (at : ℕ) (g : List ℕ). put a.words.now at g) c.window_offset.ensures c.encode-group.ensures.0 in
    (after, ap (λ (w : List ℕ). loaded_window w a.domain a.slot) after ∙ window_stored a.words.now a.domain a.slot a.w (omega arith) c.encode-group.ensures.1, search rules)
