-- `open_slot` meets its contract: the phase decides, and what is stored is the stream that was opened.
use Rattle.slots.proofs.Slots.{open_done, open_refused}
use Rattle.block.proofs.Stored.{stream_changed}
use Rattle.block.specs.Exchange.{with_stream_of}
use Rattle.block.specs.Device.{rnic_at}
use Rattle.rdmap.specs.declared.stream.Stream.{Stream}
use Rattle.rdmap.specs.Phase.{is_closed}
use mathlib.Core.Path.{sym, ap, ◌∙◌}
use borrow.Author.Rules.{rules}
use Rattle.slots.proofs.stream.open_slot.Goals as goal

pub returns-then-is_closed : goal.returns-then-is_closed
returns-then-is_closed c =
    let a = c.args in
    let e = ap is_closed (sym c.load_phase-phase.ensures) ∙ sym c.is_closed.ensures ∙ c.if-is_closed.true in
    let stored = stream_changed a.words.now c.store_stream.new.words a.at.domain a.at.domain_in_range (search rules) a.at.slot a.at.slot_in_range c.opened_stream.result c.store_stream.ensures.0 c.store_stream.ensures.1 in
    open_done a.words.now a.at.domain a.at.slot a.at.domain_in_range a.at.slot_in_range a.crc c.store_stream.new.words e
    (stored ∙ ap (λ (x : Stream). with_stream_of (rnic_at a.words.now) a.at.domain a.at.slot x) c.opened_stream.ensures)

pub returns : goal.returns
returns c =
    let a = c.args in
    open_refused a.words.now a.at.domain a.at.slot a.at.domain_in_range a.at.slot_in_range a.crc (ap is_closed (sym c.load_phase-phase.ensures) ∙ sym c.is_closed.ensures ∙ c.if-is_closed.false)
