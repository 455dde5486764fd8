-- `load_meter` meets its contract: the part that is lent has the group's words.
use Prim.Native.Nat.{◌+◌, ◌-◌}
use mathlib.Core.Path.{◌≡◌, refl, ◌∙◌}
use native.Mathlib.Omega.{arith}
use Rattle.block.specs.Device.{loaded_meter}
use Rattle.block.proofs.meters.load_meter.Goals as goal

pub returns : goal.returns
unfolding loaded_meter
returns c =
    let k : c.meter_offset-at.result + 3 - c.meter_offset-at.result ≡ 3 = omega arith in
    c.decode.ensures ∙ rw (k, c.meter_offset-at.ensures) refl
