-- `close_slot` meets its contract: the phase decides, the counts are the queues', and what is stored is a closed stream.
use Rattle.slots.proofs.Slots.{close_done, close_refused}
use Rattle.block.proofs.Stored.{stream_changed}
use Rattle.block.specs.declared.sends.Head.{Head}
use Rattle.block.specs.declared.reads.Tally.{Tally}
use Rattle.block.specs.Exchange.{with_stream_of}
use Rattle.block.specs.Device.{rnic_at}
use Rattle.rdmap.specs.declared.stream.Stream.{Stream}
use Rattle.rdmap.specs.Phase.{is_closed}
use Prim.Native.Nat.{ℕ}
use mathlib.Core.Path.{sym, ap, ap₂, ◌∙◌}
use borrow.Author.Rules.{rules}
use Rattle.slots.proofs.stream.close_slot.Goals as goal
use Rattle.std.specs.Prelude.{Ok}

pub returns-then-is_closed : goal.returns-then-is_closed
returns-then-is_closed c =
    let a = c.args in
    close_refused a.words.now a.at.domain a.at.slot a.at.domain_in_range a.at.slot_in_range (ap is_closed (sym c.load_phase-phase.ensures) ∙ sym c.is_closed.ensures ∙ c.if-is_closed.true)

pub returns : goal.returns
returns c =
    let a = c.args in
    let e = ap is_closed (sym c.load_phase-phase.ensures) ∙ sym c.is_closed.ensures ∙ c.if-is_closed.false in
    let stored = stream_changed a.words.now c.store_stream.new.words a.at.domain a.at.domain_in_range (search rules) a.at.slot a.at.slot_in_range c.closed_stream.result c.store_stream.ensures.0 c.store_stream.ensures.1 in
    let done = close_done a.words.now a.at.domain a.at.slot a.at.domain_in_range a.at.slot_in_range c.store_stream.new.words e (stored ∙ ap (λ (x : Stream). with_stream_of (rnic_at a.words.now) a.at.domain a.at.slot x) c.closed_stream.ensures) in
    (ap₂ (λ (x y : ℕ). Ok (record { buffers = x; reads = y })) (ap (λ (x : Head). x.count) c.load_head-sends.ensures) (ap (λ (x : Tally). x.count) c.load_tally-reads.ensures) ∙ done.0, done.1)
