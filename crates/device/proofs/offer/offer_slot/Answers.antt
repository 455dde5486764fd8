-- `offer_slot` meets its contract: the phase decides, and then whether bytes are held.
use mathlib.Core.Path.{sym, ap, ◌∙◌}
use native.Mathlib.Omega.{arith}
use Rattle.rdmap.specs.Phase.{readiness}
use Rattle.device.proofs.Offered.{offer-shut}
use Rattle.device.proofs.Received.{ready_otherwise}
use Rattle.slots.proofs.Slots.{phase_of_lem, framing_of}
use Rattle.device.proofs.offer.offer_slot.Goals as goal

pub returns-in-Err : goal.returns-in-Err
returns-in-Err c =
    let a = c.args in
    let t = offer-shut a.words.now a.at.domain a.at.slot a.at.domain_in_range a.at.slot_in_range a.part a.bytes.now a.store.now a.room.now _
    (ap readiness (sym c.load_phase-phase.ensures) ∙ sym c.ready.ensures ∙ c.in-Err.is) in
    (c.refused_words.ensures ∙ t.0, t.1, t.2, t.3)

pub offer_fresh-requires : goal.offer_fresh-requires
offer_fresh-requires c =
    let a = c.args in (
      ap readiness (phase_of_lem a.words.now a.at.domain a.at.slot a.at.domain_in_range a.at.slot_in_range ∙ sym c.load_phase-phase.ensures) ∙ sym c.ready.ensures ∙ ready_otherwise _ c.in_default.not-Err,
      c.load_framing-framing.ensures ∙ sym (framing_of a.words.now a.at.domain a.at.slot a.at.domain_in_range a.at.slot_in_range),
      c.if-framing-eq0.true,
    )

pub offer_held-requires : goal.offer_held-requires
offer_held-requires c =
    let a = c.args in (
      ap readiness (phase_of_lem a.words.now a.at.domain a.at.slot a.at.domain_in_range a.at.slot_in_range ∙ sym c.load_phase-phase.ensures) ∙ sym c.ready.ensures ∙ ready_otherwise _ c.in_default.not-Err,
      c.load_framing-framing.ensures ∙ sym (framing_of a.words.now a.at.domain a.at.slot a.at.domain_in_range a.at.slot_in_range),
      omega (arith, c.if-framing-eq0.false),
      c.requires,
    )
