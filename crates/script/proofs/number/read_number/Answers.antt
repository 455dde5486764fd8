use Rattle.std.proofs.Common.{arith}
use Rattle.script.proofs.Numbers.{number-empty, number-some, read_on, read_end}
use Rattle.script.proofs.number.read_number.Goals as goal

pub returns-then-is_empty : goal.returns-then-is_empty
returns-then-is_empty c = grind (arith, number-empty)

pub loop-b-init : goal.loop-b-init
loop-b-init c = grind (arith, number-some)

pub returns-in_err-v : goal.returns-in_err-v
returns-in_err-v c = grind (arith, read_on)

pub loop-b-preserved : goal.loop-b-preserved
loop-b-preserved c = grind (arith, read_on)

pub returns : goal.returns
returns c = grind (arith, read_end)
