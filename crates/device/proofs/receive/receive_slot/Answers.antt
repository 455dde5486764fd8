-- `receive_slot` meets its contract: the phase decides, then whether bytes are held, and the rest is `first_words`.
use mathlib.Core.Path.{sym, ap, ◌∙◌}
use borrow.Author.Tests.{lt-ltb, le-ltb}
use Rattle.rdmap.specs.Phase.{readiness}
use Rattle.device.proofs.Offered.{receives_none, receives_held, shut_none, ready-holds}
use Rattle.device.proofs.Received.{not-ready, is-ready, ready_otherwise}
use Rattle.device.proofs.receive.receive_slot.Goals as goal

pub returns-in-Err : goal.returns-in-Err
returns-in-Err c =
    let a = c.args in
    let e = ap readiness (sym c.load_phase-phase.ensures) ∙ sym c.ready.ensures ∙ c.in-Err.is in
    let t = receives_none a.words.now a.at.domain a.at.slot a.at.domain_in_range a.at.slot_in_range a.part a.bytes.now a.store.now a.words.now
    (shut_none a.words.now a.at.domain a.at.slot a.at.domain_in_range a.at.slot_in_range a.part a.bytes.now a.store.now _ e)
    (not-ready a.words.now a.at.domain a.at.slot a.part a.bytes.now a.store.now a.at.domain_in_range a.at.slot_in_range _ e) in
    (c.refused_words.ensures ∙ t.0, t.1, t.2)

pub returns-then-framing-gt0 : goal.returns-then-framing-gt0
returns-then-framing-gt0 c =
    let a = c.args in
    let e = ap readiness (sym c.load_phase-phase.ensures) ∙ sym c.ready.ensures ∙ ready_otherwise _ c.in_default.not-Err in
    let t = receives_held a.words.now a.at.domain a.at.slot a.at.domain_in_range a.at.slot_in_range a.part a.bytes.now a.store.now
    (ready-holds a.words.now a.at.domain a.at.slot a.at.domain_in_range a.at.slot_in_range a.part a.bytes.now a.store.now e c.load_framing-framing.result c.load_framing-framing.ensures ∙ lt-ltb _ _ c.if-framing-gt0.true) in
    (c.refused_words-then-framing-gt0.ensures ∙ t.0, t.1, t.2)

pub returns : goal.returns
returns c =
    let a = c.args in
    let e = ap readiness (sym c.load_phase-phase.ensures) ∙ sym c.ready.ensures ∙ ready_otherwise _ c.in_default.not-Err in
    receives_none a.words.now a.at.domain a.at.slot a.at.domain_in_range a.at.slot_in_range a.part a.bytes.now a.store.now c.first_words.new.words
    (ready-holds a.words.now a.at.domain a.at.slot a.at.domain_in_range a.at.slot_in_range a.part a.bytes.now a.store.now e c.load_framing-framing.result c.load_framing-framing.ensures ∙ le-ltb _ _ c.if-framing-gt0.false)
    (is-ready a.words.now a.at.domain a.at.slot a.part a.bytes.now a.store.now a.at.domain_in_range a.at.slot_in_range c.first_words.new.words c.load_framing-framing.result e c.load_framing-framing.ensures c.first_words.ensures)
