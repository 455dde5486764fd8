-- `store_len` meets its contract: what is put there is what stands there, and it decodes to what was stored.
use mathlib.Core.Path.{ap, ◌∙◌}
use native.Mathlib.Omega.{arith}
use borrow.Author.Rules.{rules}
use Rattle.block.specs.Device.{loaded_len}
use Rattle.block.proofs.Back.{len_stored}
use Rattle.block.proofs.device.store_len.Goals as goal

pub returns : goal.returns
returns c =
    let a = c.args in
    (c.store_word.ensures, ap loaded_len c.store_word.ensures ∙ len_stored a.words.now a.len (omega arith) (omega arith), search rules)
