-- `find_fault` meets its contract: each turn is one of `Finding`.
use Rattle.std.proofs.Common.{sym, ap, ◌∙◌, ◌+◌, Some, None, get_or, arith}
use Rattle.command.specs.Args.{words_of}
use Rattle.faults.specs.Fault.{fault_of}
use Rattle.faults.specs.declared.fault.Kind.{Kind}
use Rattle.faults.proofs.Finding.{all_seen, no_more, turn}
use Rattle.faults.proofs.fault.find_fault.Goals as goal

pub returns-then-len-i : goal.returns-then-len-i
returns-then-len-i c = sym (c.loop-i.invariant ∙ no_more c.args.kinds.now (words_of c.args.words.now) c.loop-i.i c.loop-i-test.true Kind.Number (omega arith))

pub returns-in-Some : goal.returns-in-Some
returns-in-Some c =
    let e = sym (c.word_fault.ensures ∙ ap (fault_of _) c.word.ensures) ∙ c.in-Some.is in
    sym (c.loop-i.invariant ∙ turn c.args.kinds.now (words_of c.args.words.now) c.loop-i.i c.loop-i-test.true _ (omega arith) (Some c.in-Some.fault) e)

pub loop-i-preserved : goal.loop-i-preserved
loop-i-preserved c =
    let e = sym (c.word_fault.ensures ∙ ap (fault_of _) c.word.ensures) ∙ c.in_default.is in
    c.loop-i.invariant ∙ turn c.args.kinds.now (words_of c.args.words.now) c.loop-i.i c.loop-i-test.true _ (omega arith) None e

pub returns : goal.returns
returns c = sym (c.loop-i.invariant ∙ all_seen c.args.kinds.now (words_of c.args.words.now) c.loop-i.i c.loop-i-test.false)
