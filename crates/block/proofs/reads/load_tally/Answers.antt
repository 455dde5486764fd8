-- `load_tally` meets its contract: the part that is lent has the group's words.
use Rattle.block.specs.Stream.{loaded_reads}
use native.Mathlib.Omega.{arith}
use mathlib.Core.Path.{◌≡◌, refl, ◌∙◌}
use Prim.Native.Nat.{◌+◌, ◌-◌}
use Rattle.block.proofs.reads.load_tally.Goals as goal

pub returns : goal.returns
unfolding loaded_reads
returns c =
    let k : c.stream_offset-at.result + 13 + 33 - (c.stream_offset-at.result + 13) ≡ 33 = omega arith in
    c.decode_tally.ensures ∙ rw (k, c.stream_offset-at.ensures) refl
