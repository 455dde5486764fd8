-- `tick` meets its contract: the number decides, and the domain's meter is what its tick gives.
use Prim.Native.Nat.{◌<◌}
use native.Mathlib.Omega.{arith}
use mathlib.Core.Path.{sym, ap, ◌∙◌}
use borrow.Author.Tests.{le-leb, lt-leb}
use Rattle.meter.specs.Gauge.{ticked_meter}
use Rattle.meter.specs.declared.Meter.{Meter}
use Rattle.domain.specs.Domain.{with_meter}
use Rattle.rnic.specs.Rnic.{domain_at, with_domain, rnic_ticked}
use Rattle.block.specs.Device.{rnic_at}
use Rattle.block.proofs.Stored.{meter_at_lem, ticked_changed}
use Rattle.slots.proofs.gauge.tick.Goals as goal

pub returns-then-number-le3 : goal.returns-then-number-le3
unfolding rnic_ticked
returns-then-number-le3 c =
    let a = c.args in
    let hd : a.number < 4 = omega (arith, c.if-number-le3.true) in
    let b = rnic_at a.words.now in
    let own = ap ticked_meter (sym (meter_at_lem a.words.now a.number hd)) in
    let changed = ticked_changed a.words.now c.tick_meter.new.words a.number hd (omega (arith, c.tick_meter.ensures.2)) _ c.tick_meter.ensures.0 c.tick_meter.ensures.1 in
    (simp (le-leb _ _ c.if-number-le3.true), simp (le-leb _ _ c.if-number-le3.true) (changed ∙ ap (λ (m : Meter). with_domain b a.number (with_meter (domain_at b a.number) m)) own))

pub returns : goal.returns
unfolding rnic_ticked
returns c = let h = lt-leb _ _ c.if-number-le3.false in (simp h, simp h)
