-- `drop_slot` meets its contract: what is stored is what dropping makes of the window.
use Rattle.block.proofs.Stored.{window_at_lem, window_changed}
use Rattle.slots.specs.Window.{window_of, with_window_of}
use Rattle.block.specs.Device.{rnic_at}
use Rattle.memory.specs.Window.{dropped_in}
use mathlib.Core.Path.{◌≡◌, sym, ap, ◌∙◌}
use borrow.Author.Rules.{rules}
use Rattle.device.proofs.window.drop_slot.Goals as goal
use Rattle.std.specs.Prelude.{Result, ⊤}
use Rattle.wire.specs.declared.refusal.LocalRefusal.{LocalRefusal}
use Rattle.memory.specs.declared.window.Window.{Window}

pub returns : goal.returns
returns c =
    let a = c.args in
    let w = a.words.now in
    let e : c.drop_in-outcome.result ≡ dropped_in (window_of (rnic_at w) a.at.domain a.at.slot) = c.drop_in-outcome.ensures ∙ ap dropped_in (c.load_window-w.ensures ∙ sym (window_at_lem w a.at.domain a.at.domain_in_range a.at.slot a.at.slot_in_range)) in
    let stored = window_changed w c.store_window.new.words a.at.domain a.at.domain_in_range (search rules) a.at.slot a.at.slot_in_range c.drop_in-outcome.result.1 c.store_window.ensures.0 c.store_window.ensures.1 in
    (ap (λ (x : Result ⊤ LocalRefusal × Window). x.0) e, stored ∙ ap (λ (x : Result ⊤ LocalRefusal × Window). with_window_of (rnic_at w) a.at.domain a.at.slot x.1) e)
