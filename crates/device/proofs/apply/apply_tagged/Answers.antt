-- `apply_tagged` meets its contract: the first three arms are those of `apply`, and no other verdict is on a tagged segment.
use Rattle.device.proofs.Applied.{told, refused, nothing, written, no_other}
use Rattle.device.specs.Lifted.{OfTagged}
use mathlib.Core.Path.{ap, subst, ◌∙◌}
use Rattle.device.proofs.apply.apply_tagged.Goals as goal
use Rattle.std.specs.Prelude.{Ok}

pub returns-in-Err : goal.returns-in-Err
returns-in-Err c =
    let a = c.args in
    let w = a.words.now in
    let done = told w a.stream.domain a.stream.slot a.stream.domain_in_range a.stream.slot_in_range a.total a.from a.payload.now a.store.now c.end.new.words c.in-Err.is (refused w a.stream.domain a.stream.slot a.stream.domain_in_range a.stream.slot_in_range a.total a.from a.payload.now a.store.now c.in-Err.refusal c.end.new.words c.end.ensures.1) in
    (c.end.ensures.0 ∙ done.0, done.1, done.2)

pub returns-in-Nothing : goal.returns-in-Nothing
returns-in-Nothing c =
    let a = c.args in
    let w = a.words.now in
    let v = w in
    let done = told w a.stream.domain a.stream.slot a.stream.domain_in_range a.stream.slot_in_range a.total a.from a.payload.now a.store.now v (c.in-Ok.is ∙ ap Ok c.in-Nothing.is) (nothing w a.stream.domain a.stream.slot a.stream.domain_in_range a.stream.slot_in_range a.total a.from a.payload.now a.store.now) in
    (c.taken.ensures ∙ done.0, done.1, done.2)

pub returns-in-Write : goal.returns-in-Write
returns-in-Write c =
    let a = c.args in
    let w = a.words.now in
    let v = w in
    let done = told w a.stream.domain a.stream.slot a.stream.domain_in_range a.stream.slot_in_range a.total a.from a.payload.now a.store.now v (c.in-Ok.is ∙ ap Ok c.in-Write.is) (written w a.stream.domain a.stream.slot a.stream.domain_in_range a.stream.slot_in_range a.total a.from a.payload.now a.store.now c.in-Write.at) in
    (c.taken-in-Write.ensures ∙ done.0, done.1, c.place_from.ensures ∙ done.2)

pub returns-in_default : goal.returns-in_default
returns-in_default c = absurd (no_other c.in-Ok.verdict (subst OfTagged c.in-Ok.is c.requires) c.in_default.not-Nothing c.in_default.not-Write)
