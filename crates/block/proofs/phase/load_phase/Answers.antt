-- `load_phase` meets its contract: the word that is read is the group.
use mathlib.Core.Path.{◌∙◌}
use native.Mathlib.Omega.{arith}
use Rattle.block.specs.Layout.{stream_offset}
use Rattle.block.specs.Stream.{phase_in, loaded_phase}
use Rattle.block.proofs.Lists.{word_read}
use Rattle.block.proofs.phase.load_phase.Goals as goal

pub returns : goal.returns
unfolding loaded_phase
returns c =
    let a = c.args in
    c.decode.ensures ∙ word_read phase_in a.words.now c.stream_offset-at.result (stream_offset a.domain a.slot) (omega arith) (omega arith)
