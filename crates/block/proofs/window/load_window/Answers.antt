-- `load_window` meets its contract: the part that is lent has the group's words.
use Prim.Native.Nat.{◌+◌, ◌-◌}
use mathlib.Core.Path.{◌≡◌, refl, ◌∙◌}
use native.Mathlib.Omega.{arith}
use Rattle.block.specs.Device.{loaded_window}
use Rattle.block.proofs.window.load_window.Goals as goal

pub returns : goal.returns
unfolding loaded_window
returns c =
    let k : c.window_offset-at.result + 3 - c.window_offset-at.result ≡ 3 = omega arith in
    c.decode.ensures ∙ rw (k, c.window_offset-at.ensures) refl
