-- `reading` meets its contract: the number decides, and the answer is that of the domain's meter.
use Prim.Native.Nat.{◌<◌}
use native.Mathlib.Omega.{arith}
use mathlib.Core.Path.{sym, ap, ◌∙◌}
use borrow.Author.Tests.{le-leb, lt-leb}
use Rattle.meter.specs.Gauge.{reading_of}
use Rattle.meter.specs.declared.Meter.{Meter}
use Rattle.rnic.specs.Rnic.{rnic_reading}
use Rattle.block.proofs.Stored.{meter_at_lem}
use Rattle.slots.proofs.gauge.reading.Goals as goal
use Rattle.std.specs.Prelude.{Ok}

pub returns-then-number-le3 : goal.returns-then-number-le3
unfolding rnic_reading
returns-then-number-le3 c =
    let a = c.args in
    let hd : a.number < 4 = omega (arith, c.if-number-le3.true) in
    simp (le-leb _ _ c.if-number-le3.true) (ap Ok (c.reading.ensures ∙ ap (λ (m : Meter). reading_of m.gauge m.ticked) (c.load_meter-m.ensures ∙ sym (meter_at_lem a.words.now a.number hd))))

pub returns : goal.returns
unfolding rnic_reading
returns c = simp (lt-leb _ _ c.if-number-le3.false)
