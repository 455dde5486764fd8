-- `load_terminates` meets its contract: the word that is read is the group.
use Prim.Native.Nat.{◌+◌}
use mathlib.Core.Path.{◌∙◌}
use native.Mathlib.Omega.{arith}
use Rattle.block.specs.Layout.{terminates_offset}
use Rattle.block.specs.Queue.{terminates_in}
use Rattle.block.specs.Stream.{loaded_terminates}
use Rattle.block.proofs.Lists.{word_read}
use Rattle.block.proofs.terminates.load_terminates.Goals as goal

pub returns : goal.returns
unfolding loaded_terminates
returns c =
    let a = c.args in
    c.decode.ensures ∙ word_read terminates_in a.words.now (c.stream_offset-at.result + 2) (terminates_offset a.domain a.slot) (omega arith) (omega arith)
