-- `load_part` meets its contract: the word that is read is the group.
use mathlib.Core.Path.{◌∙◌}
use native.Mathlib.Omega.{arith}
use Rattle.block.specs.Device.{loaded_part}
use Rattle.block.specs.Layout.{domain_offset}
use Rattle.block.specs.Words.{part_in}
use Rattle.block.proofs.Lists.{word_read}
use Rattle.block.proofs.device.load_part.Goals as goal

pub returns : goal.returns
unfolding loaded_part
returns c =
    let a = c.args in
    c.decode.ensures ∙ word_read part_in a.words.now c.domain_offset-at.result (domain_offset a.domain) (omega arith) (omega arith)
