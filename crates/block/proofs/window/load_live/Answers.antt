-- `load_live` meets its contract: the part that is lent has the window's words.
use Rattle.block.specs.Device.{loaded_window}
use native.Mathlib.Omega.{arith}
use mathlib.Core.Path.{◌≡◌, refl, ◌∙◌}
use Prim.Native.Nat.{◌+◌, ◌-◌}
use Rattle.block.proofs.window.load_live.Goals as goal

pub returns : goal.returns
unfolding loaded_window
returns c =
    let k : c.window_offset-at.result + 3 - c.window_offset-at.result ≡ 3 = omega arith in
    c.decode_live.ensures ∙ rw (k, c.window_offset-at.ensures) refl
