-- `take_rest` meets its contract, by what the line is.
use Rattle.gauge.proofs.Steps.{rest_value, rest-bad}
use Rattle.gauge.proofs.run.take_rest.Goals as goal

pub returns-in-Empty : goal.returns-in-Empty
returns-in-Empty g c = rw c.in-Empty.is c.clear.ensures

pub returns-in-Value : goal.returns-in-Value
returns-in-Value g c = let a = c.args in rest_value a.state _ c.after_line.result _ _ c.in-Value.is c.after_line.ensures c.clear.ensures c.put_answer.ensures

pub returns-in-Bad : goal.returns-in-Bad
returns-in-Bad g c = let a = c.args in rest-bad a.state c.after_line-in-Bad.result _ _ c.in-Bad.is c.after_line-in-Bad.ensures c.clear.ensures c.put_answer-in-Bad.ensures
