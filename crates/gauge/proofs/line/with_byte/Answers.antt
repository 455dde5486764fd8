-- `with_byte` meets its contract, by what the line was.
use Rattle.gauge.proofs.line.with_byte.Goals as goal

pub returns-in-Empty : goal.returns-in-Empty
returns-in-Empty c = rw c.in-Empty.is c.digit_after.ensures

pub returns-in-Value : goal.returns-in-Value
returns-in-Value c = rw c.in-Value.is c.digit_after-in-Value.ensures
