-- `tick_meter` meets its contract: what is put there is what stands there, and it decodes to the meter that was ticked.
use Prim.Native.Nat.{ℕ}
use mathlib.Core.List.{List}
use mathlib.Core.Path.{◌≡◌, ap, ap₂, ◌∙◌}
use native.Mathlib.Omega.{arith}
use Rattle.wire.specs.Wire.{put}
use Rattle.meter.specs.Gauge.{ticked_meter}
use Rattle.meter.specs.Words.{meter_words}
use Rattle.meter.specs.declared.Meter.{Meter}
use Rattle.block.specs.Device.{loaded_meter}
use Rattle.block.proofs.Counted.{ticks_encodable, meter_stored}
use borrow.Author.Rules.{rules}
use Rattle.block.proofs.meters.tick_meter.Goals as goal

pub returns : goal.returns
returns c =
    let a = c.args in
    let m : Meter = ticked_meter (loaded_meter a.words.now a.domain) in
    let ticked : c.tick.result ≡ m = c.tick.ensures ∙ ap ticked_meter c.load_meter-m.ensures in
    let after = c.copy.ensures ∙ ap₂ (λ (at : ℕ) (g : List ℕ). put a.words.now at g) c.meter_offset.ensures (c.encode-group.ensures ∙ ap meter_words ticked) in
    (after, ap (λ (w : List ℕ). loaded_meter w a.domain) after ∙ meter_stored a.words.now a.domain m (ticks_encodable a.words.now a.domain) (omega arith), search rules)
