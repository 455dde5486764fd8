-- `load_sends` meets its contract: the part that is lent has the group's words.
use Prim.Native.Nat.{◌+◌, ◌-◌}
use mathlib.Core.Path.{◌≡◌, refl, ◌∙◌}
use native.Mathlib.Omega.{arith}
use Rattle.block.specs.Stream.{loaded_sends}
use Rattle.block.proofs.sends.load_sends.Goals as goal

pub returns : goal.returns
unfolding loaded_sends
returns c =
    let k : c.stream_offset-at.result + 3 + 10 - (c.stream_offset-at.result + 3) ≡ 10 = omega arith in
    c.decode.ensures ∙ rw (k, c.stream_offset-at.ensures) refl
