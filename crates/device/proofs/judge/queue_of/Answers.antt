-- `queue_of` meets its contract: the number picks the queue, whose words were loaded.
use Rattle.block.specs.Queue.{tally_of}
use Rattle.slots.proofs.Slots.{reads_of, terminates_of}
use Rattle.rdmap.specs.Terminates.{terminate_queue}
use Rattle.rdmap.specs.Message.{queue_of}
use borrow.Author.Tests.{eq-eqb, ne_eqb}
use lib.Dec.{ltb}
use mathlib.Core.Path.{sym, ap, ◌∙◌}
use Rattle.device.proofs.judge.queue_of.Goals as goal

pub returns-then-qn-eq0 : goal.returns-then-qn-eq0
unfolding queue_of
returns-then-qn-eq0 c = simp (eq-eqb _ _ c.if-qn-eq0.true) (λ i. record { msn = (c.requires i).msn; room = ltb 0 (c.requires i).count; limit = (c.requires i).buffer.len; taken = (c.requires i).taken })

pub returns-then-qn-eq1 : goal.returns-then-qn-eq1
unfolding queue_of
returns-then-qn-eq1 c =
    let a = c.args in
    let p = c.load_tally-tally.ensures ∙ ap tally_of (sym (reads_of a.words.now a.at.domain a.at.slot a.at.domain_in_range a.at.slot_in_range)) in
    simp (ne_eqb _ _ c.if-qn-eq0.false, eq-eqb _ _ c.if-qn-eq1.true) (λ i. record { msn = (p i).msn; room = ltb (p i).count 8; limit = 28; taken = 0 })

pub returns : goal.returns
unfolding queue_of
returns c =
    let a = c.args in
    simp (ne_eqb _ _ c.if-qn-eq0.false, ne_eqb _ _ c.if-qn-eq1.false) (c.queue.ensures ∙ ap terminate_queue (c.load_terminates-terminates.ensures ∙ sym (terminates_of a.words.now a.at.domain a.at.slot a.at.domain_in_range a.at.slot_in_range)))
