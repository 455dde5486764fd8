-- `offer_fresh` meets its contract: by the first word of receive's answer, as proofs/Offered.antt has it.
use mathlib.Core.Path.{◌∙◌}
use Rattle.device.proofs.Offered.{fresh_kept, fresh_done}
use Rattle.device.proofs.offer.offer_fresh.Goals as goal

pub returns-then-kind-eq5 : goal.returns-then-kind-eq5
returns-then-kind-eq5 c =
    let a = c.args in
    let t = fresh_kept a.words.now a.at.domain a.at.slot a.at.domain_in_range a.at.slot_in_range a.part a.bytes.now a.store.now a.room.now c.requires.0 a.framing c.requires.1 c.requires.2 c.first_words.new.words c.first_words.ensures c.if-kind-eq5.true
    c.hold.result c.hold.new.words c.hold.new.room c.hold.ensures.0 c.hold.ensures.1 c.hold.ensures.2 in
    (c.offered.ensures ∙ t.0, t.1, t.2, t.3)

pub returns : goal.returns
returns c =
    let a = c.args in
    let t = fresh_done a.words.now a.at.domain a.at.slot a.at.domain_in_range a.at.slot_in_range a.part a.bytes.now a.store.now a.room.now c.requires.0 a.framing c.requires.1 c.requires.2 c.first_words.new.words c.first_words.ensures c.if-kind-eq5.false in
    (c.offered.ensures ∙ t.0, t.1, t.2, t.3)
