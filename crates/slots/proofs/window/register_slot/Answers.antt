-- `register_slot` meets its contract: what registering makes of the window decides, and last whether bytes are shared.
use Rattle.slots.proofs.Shared.{register-kept, register-shared, register-done}
use Rattle.block.proofs.Stored.{window_changed}
use Rattle.memory.specs.Window.{registered_in}
use mathlib.Core.Path.{sym, ◌∙◌}
use borrow.Author.Rules.{rules}
use Rattle.std.proofs.lemmas.Result.{err_from_is_err_and}
use Rattle.slots.proofs.window.register_slot.Goals as goal

pub returns-in_err-outcome : goal.returns-in_err-outcome
returns-in_err-outcome c =
    let a = c.args in
    let p = err_from_is_err_and c.from_residual.result c.from_residual.ensures.1 in
    let t = register-kept a.words.now a.at.domain a.at.slot a.at.domain_in_range a.at.slot_in_range a.key a.base a.len a.place a.rights c.register_in-outcome.result
    (c.register_in-outcome.ensures ∙ (λ i. registered_in (c.load_window-w.ensures i) (c.load_part-part.ensures i) a.key a.base a.len a.place a.rights)) _
    c.in_err-outcome.was in
    (rw (p.1, p.2) t.0, t.1)

pub returns-then-write_shares : goal.returns-then-write_shares
returns-then-write_shares c =
    let a = c.args in
    register-shared a.words.now a.at.domain a.at.slot a.at.domain_in_range a.at.slot_in_range a.key a.base a.len a.place a.rights c.register_in-outcome.result
    (c.register_in-outcome.ensures ∙ (λ i. registered_in (c.load_window-w.ensures i) (c.load_part-part.ensures i) a.key a.base a.len a.place a.rights))
    c.in_ok-outcome.was (sym c.write_shares.ensures ∙ c.if-write_shares.true)

pub returns : goal.returns
returns c =
    let a = c.args in
    let stored = window_changed a.words.now c.store_window.new.words a.at.domain a.at.domain_in_range (search rules) a.at.slot a.at.slot_in_range c.register_in-outcome.result.1 c.store_window.ensures.0 c.store_window.ensures.1 in
    register-done a.words.now a.at.domain a.at.slot a.at.domain_in_range a.at.slot_in_range a.key a.base a.len a.place a.rights c.register_in-outcome.result
    (c.register_in-outcome.ensures ∙ (λ i. registered_in (c.load_window-w.ensures i) (c.load_part-part.ensures i) a.key a.base a.len a.place a.rights)) c.store_window.new.words
    c.in_ok-outcome.was (sym c.write_shares.ensures ∙ c.if-write_shares.false) stored
