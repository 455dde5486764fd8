-- `held_at` meets its contract: the count of the framing that was loaded.
use mathlib.Core.Path.{sym, ap, ◌∙◌}
use Rattle.rdmap.specs.declared.framing.Framing.{Framing}
use Rattle.slots.proofs.Slots.{framing_of}
use Rattle.device.proofs.offer.held_at.Goals as goal

pub returns : goal.returns
returns c =
    let at = c.args.at in
    ap (λ (f : Framing). f.held) (c.load_framing-framing.ensures ∙ sym (framing_of c.args.words.now at.domain at.slot at.domain_in_range at.slot_in_range))
