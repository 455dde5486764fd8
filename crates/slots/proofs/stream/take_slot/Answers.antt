-- `take_slot` meets its contract: the phase and the count decide, and what is stored is the queue without its head.
use Rattle.slots.proofs.Slots.{take-refused, take_none, take_first}
use Rattle.block.proofs.Stored.{reads_changed}
use Rattle.block.specs.declared.reads.Tally.{Tally}
use Rattle.block.specs.Exchange.{stream_of, with_stream_of}
use Rattle.block.specs.Device.{rnic_at}
use Rattle.rdmap.specs.declared.read.Reads.{Reads}
use Rattle.rdmap.specs.Read.{first_read, popped_reads}
use Rattle.rdmap.specs.Stream.{with_reads}
use Rattle.rdmap.specs.Phase.{readiness}
use borrow.Author.Tests.{eq-eqb, ne_eqb}
use lib.Dec.{eqb}
use mathlib.Core.Path.{sym, ap, ◌∙◌}
use borrow.Author.Rules.{rules}
use Rattle.std.proofs.lemmas.Result.{err_from_is_err_and}
use Rattle.slots.proofs.stream.take_slot.Goals as goal
use Rattle.std.specs.Prelude.{Ok}

pub returns-in_err-ready : goal.returns-in_err-ready
returns-in_err-ready c =
    let a = c.args in
    let p = err_from_is_err_and c.from_residual.result c.from_residual.ensures.1 in
    let t = take-refused a.words.now a.at.domain a.at.slot a.at.domain_in_range a.at.slot_in_range _
    (ap readiness (sym c.load_phase-phase.ensures) ∙ sym c.ready.ensures ∙ c.in_err-ready.was) in
    (rw (p.1, p.2) t.0, t.1)

pub returns-then-tally-eq0 : goal.returns-then-tally-eq0
returns-then-tally-eq0 c =
    let a = c.args in
    take_none a.words.now a.at.domain a.at.slot a.at.domain_in_range a.at.slot_in_range
    (ap readiness (sym c.load_phase-phase.ensures) ∙ sym c.ready.ensures ∙ c.in_ok-ready.was)
    (ap (λ (x : Tally). eqb x.count 0) (sym c.load_tally-tally.ensures) ∙ eq-eqb _ _ c.if-tally-eq0.true)

pub returns : goal.returns
returns c =
    let a = c.args in
    let w = a.words.now in
    let stored = reads_changed w c.store_reads.new.words a.at.domain a.at.domain_in_range (search rules) a.at.slot a.at.slot_in_range c.popped.result c.store_reads.ensures.0 c.store_reads.ensures.1 in
    let e = ap (λ (x : Tally). eqb x.count 0) (sym c.load_tally-tally.ensures) ∙ ne_eqb _ _ c.if-tally-eq0.false in
    let ready = ap readiness (sym c.load_phase-phase.ensures) ∙ sym c.ready.ensures ∙ c.in_ok-ready.was in
    let done = take_first w a.at.domain a.at.slot a.at.domain_in_range a.at.slot_in_range c.store_reads.new.words ready e (stored ∙ ap (λ (x : Reads). with_stream_of (rnic_at w) a.at.domain a.at.slot (with_reads (stream_of (rnic_at w) a.at.domain a.at.slot) x)) (c.popped.ensures ∙ ap popped_reads c.load_reads-reads.ensures)) in
    (ap Ok (c.first-first.ensures ∙ ap first_read c.load_reads-reads.ensures) ∙ done.0, done.1)
