-- `post_slot` meets its contract: the phase decides, then what posting makes of the sends, and last whether bytes are shared.
use Rattle.slots.proofs.Shared.{post-refused, post-kept, post-shared, post-done}
use Rattle.block.proofs.Stored.{sends_changed}
use Rattle.rdmap.specs.Sends.{posted_sends}
use Rattle.rdmap.specs.Phase.{readiness}
use mathlib.Core.Path.{sym, ap, ◌∙◌}
use native.Mathlib.Omega.{arith}
use borrow.Author.Rules.{rules}
use Rattle.std.proofs.lemmas.Result.{err_from_is_err_and}
use Rattle.slots.proofs.stream.post_slot.Goals as goal

pub returns-in_err-ready : goal.returns-in_err-ready
returns-in_err-ready c =
    let a = c.args in
    let p = err_from_is_err_and c.from_residual.result c.from_residual.ensures.1 in
    let t = post-refused a.words.now a.at.domain a.at.slot a.at.domain_in_range a.at.slot_in_range a.start a.len _
    (ap readiness (sym c.load_phase-phase.ensures) ∙ sym c.ready.ensures ∙ c.in_err-ready.was) in
    (rw (p.1, p.2) t.0, t.1)

pub returns-in_err-outcome : goal.returns-in_err-outcome
returns-in_err-outcome c =
    let a = c.args in
    let p = err_from_is_err_and c.from_residual-in_err-outcome.result c.from_residual-in_err-outcome.ensures.1 in
    let t = post-kept a.words.now a.at.domain a.at.slot a.at.domain_in_range a.at.slot_in_range a.start a.len c.post-outcome.result
    (ap readiness (sym c.load_phase-phase.ensures) ∙ sym c.ready.ensures ∙ c.in_ok-ready.was)
    (c.post-outcome.ensures ∙ (λ i. posted_sends (c.load_sends-sends.ensures i) (c.load_part-part.ensures i) a.start a.len)) _
    c.in_err-outcome.was in
    (rw (p.1, p.2) t.0, t.1)

pub domain_shares-requires : goal.domain_shares-requires
domain_shares-requires c = omega (arith, c.args.at.domain_in_range)

pub returns-then-domain_shares : goal.returns-then-domain_shares
returns-then-domain_shares c =
    let a = c.args in
    post-shared a.words.now a.at.domain a.at.slot a.at.domain_in_range a.at.slot_in_range a.start a.len c.post-outcome.result
    (ap readiness (sym c.load_phase-phase.ensures) ∙ sym c.ready.ensures ∙ c.in_ok-ready.was)
    (c.post-outcome.ensures ∙ (λ i. posted_sends (c.load_sends-sends.ensures i) (c.load_part-part.ensures i) a.start a.len))
    c.in_ok-outcome.was (sym c.domain_shares.ensures ∙ c.if-domain_shares.true)

pub returns : goal.returns
returns c =
    let a = c.args in
    let stored = sends_changed a.words.now c.store_sends.new.words a.at.domain a.at.domain_in_range (search rules) a.at.slot a.at.slot_in_range c.post-outcome.result.1 c.store_sends.ensures.0 c.store_sends.ensures.1 in
    post-done a.words.now a.at.domain a.at.slot a.at.domain_in_range a.at.slot_in_range a.start a.len c.post-outcome.result
    (ap readiness (sym c.load_phase-phase.ensures) ∙ sym c.ready.ensures ∙ c.in_ok-ready.was)
    (c.post-outcome.ensures ∙ (λ i. posted_sends (c.load_sends-sends.ensures i) (c.load_part-part.ensures i) a.start a.len)) c.store_sends.new.words
    c.in_ok-outcome.was (sym c.domain_shares.ensures ∙ c.if-domain_shares.false) stored
