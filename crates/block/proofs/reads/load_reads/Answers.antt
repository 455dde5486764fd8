-- `load_reads` meets its contract: the part that is lent has the group's words.
use Prim.Native.Nat.{◌+◌, ◌-◌}
use mathlib.Core.Path.{◌≡◌, refl, ◌∙◌}
use native.Mathlib.Omega.{arith}
use Rattle.block.specs.Stream.{loaded_reads}
use Rattle.block.proofs.reads.load_reads.Goals as goal

pub returns : goal.returns
unfolding loaded_reads
returns c =
    let k : c.stream_offset-at.result + 13 + 33 - (c.stream_offset-at.result + 13) ≡ 33 = omega arith in
    c.decode.ensures ∙ rw (k, c.stream_offset-at.ensures) refl
