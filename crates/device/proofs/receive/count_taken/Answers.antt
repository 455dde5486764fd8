-- `count_taken` meets its contract where its segment was taken; other answers count nothing.
use native.Mathlib.Omega.{arith}
use mathlib.Core.Path.{sym, ap, ◌∙◌}
use Rattle.meter.specs.Gauge.{counted_meter}
use Rattle.meter.specs.declared.Meter.{Meter}
use Rattle.domain.specs.Domain.{with_meter, meter_by}
use Rattle.arrival.specs.declared.Answer.{Answer}
use Rattle.rnic.specs.Rnic.{domain_at, with_domain}
use Rattle.block.specs.Device.{rnic_at}
use Rattle.block.proofs.Stored.{meter_at_lem, count_changed}
use Rattle.device.proofs.receive.count_taken.Goals as goal
use Rattle.std.specs.Prelude.{Ok, Result}
use Rattle.wire.specs.declared.refusal.LocalRefusal.{LocalRefusal}

pub returns-in-Ok-Taken : goal.returns-in-Ok-Taken
returns-in-Ok-Taken c =
    let a = c.args in
    let b = rnic_at a.words.now in
    count_changed a.words.now c.count_placed.new.words a.domain c.requires (omega (arith, c.count_placed.ensures.2)) (counted_meter (domain_at b a.domain).meter a.placed) a.placed c.count_placed.ensures.0
    (c.count_placed.ensures.1 ∙ ap (λ (m : Meter). counted_meter m a.placed) (sym (meter_at_lem a.words.now a.domain c.requires)))
    ∙ ap (λ (x : Result Answer LocalRefusal). with_domain b a.domain (with_meter (domain_at b a.domain) (meter_by x a.placed (domain_at b a.domain).meter))) (sym (c.in-Ok-Taken.is ∙ ap Ok (rw c.in-Ok-Taken.is at c.in-Ok-Taken.field-0-is)))
