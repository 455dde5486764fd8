-- `load_framing` meets its contract: the word that is read is the group.
use Prim.Native.Nat.{◌+◌}
use mathlib.Core.Path.{◌∙◌}
use native.Mathlib.Omega.{arith}
use Rattle.block.specs.Layout.{framing_offset}
use Rattle.block.specs.Stream.{framing_in, loaded_framing}
use Rattle.block.proofs.Lists.{word_read}
use Rattle.block.proofs.framing.load_framing.Goals as goal

pub returns : goal.returns
unfolding loaded_framing
returns c =
    let a = c.args in
    c.decode.ensures ∙ word_read framing_in a.words.now (c.stream_offset-at.result + 1) (framing_offset a.domain a.slot) (omega arith) (omega arith)
