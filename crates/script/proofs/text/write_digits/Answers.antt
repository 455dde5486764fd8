-- `write_digits` meets its contract. The loop keeps that the digits of what is left, followed by those written, are the digits of v,
-- and that there is room for what is left (`Decimal`).
use native.Mathlib.Omega.{arith}
use mathlib.Core.Path.{sym, ◌∙◌}
use lib.ListN.{length-set}
use Rattle.script.proofs.Decimal.{digit_turn, digit-last, room, digits_none}
use Rattle.script.proofs.text.write_digits.Goals as goal

pub loop-left-init : goal.loop-left-init
loop-left-init c = (omega arith, omega arith, omega arith, c.requires, digits_none c.args.digits.now c.args.v c.requires)

pub loop-left-preserved : goal.loop-left-preserved
loop-left-preserved c =
    let r = room c.loop-left.k c.loop-left.left c.loop-left.invariant.0 c.loop-left-test.true c.loop-left.invariant.2 in
    (r.0, omega arith, r.1, simp length-set c.loop-left.invariant.3, c.loop-left.invariant.4 ∙ digit_turn _ c.loop-left.left _ c.last_digit.ensures c.loop-left.k c.loop-left.invariant.0 (omega arith) c.loop-left-test.true)

pub returns : goal.returns
returns c = (omega arith, simp length-set c.loop-left.invariant.3, sym (c.loop-left.invariant.4 ∙ digit-last _ c.loop-left.left _ c.last_digit-2.ensures c.loop-left.k c.loop-left.invariant.0 (omega arith) (omega arith)))
