-- `take_byte` meets its contract: a newline ends the line, and any other byte goes into it.
use Rattle.gauge.proofs.Steps.{stepped_end, stepped_on}
use Rattle.gauge.proofs.run.take_byte.Goals as goal

pub returns-then-b-eq10 : goal.returns-then-b-eq10
returns-then-b-eq10 g c = let a = c.args in stepped_end a.state a.b a.out.now _ c.after_line-next.result c.if-b-eq10.true c.after_line-next.ensures c.put_answer.ensures

pub returns : goal.returns
returns g c = let a = c.args in stepped_on a.state a.b a.out.now c.with_byte.result c.if-b-eq10.false c.with_byte.ensures
