-- `end` meets its contract: the phase that is stored is the ended one.
use Rattle.block.proofs.Stored.{phase_changed}
use Rattle.block.specs.Exchange.{stream_of, with_stream_of}
use Rattle.block.specs.Device.{rnic_at}
use Rattle.rdmap.specs.declared.phase.Phase.{Phase}
use Rattle.rdmap.specs.Stream.{in_phase}
use mathlib.Core.Path.{refl, ap, ◌∙◌}
use borrow.Author.Rules.{rules}
use Rattle.device.proofs.apply.end.Goals as goal

pub returns : goal.returns
returns c =
    let a = c.args in
    let w = a.words.now in
    (refl, phase_changed w c.store_phase.new.words a.at.domain a.at.domain_in_range (search rules) a.at.slot a.at.slot_in_range c.ended_by.result c.store_phase.ensures.0 c.store_phase.ensures.1 ∙ ap (λ (p : Phase). with_stream_of (rnic_at w) a.at.domain a.at.slot (in_phase (stream_of (rnic_at w) a.at.domain a.at.slot) p)) c.ended_by.ensures)
