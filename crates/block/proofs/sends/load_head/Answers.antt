-- `load_head` meets its contract: the part that is lent has the group's words.
use Rattle.block.specs.Stream.{loaded_sends}
use native.Mathlib.Omega.{arith}
use mathlib.Core.Path.{◌≡◌, refl, ◌∙◌}
use Prim.Native.Nat.{◌+◌, ◌-◌}
use Rattle.block.proofs.sends.load_head.Goals as goal

pub returns : goal.returns
unfolding loaded_sends
returns c =
    let k : c.stream_offset-at.result + 3 + 10 - (c.stream_offset-at.result + 3) ≡ 10 = omega arith in
    c.decode_head.ensures ∙ rw (k, c.stream_offset-at.ensures) refl
