-- `put_answer` meets its contract, by what the line is.
use Rattle.gauge.proofs.Steps.{answer_read}
use Rattle.gauge.proofs.run.put_answer.Goals as goal

pub returns-in-Value : goal.returns-in-Value
returns-in-Value g c = let a = c.args in answer_read a.m a.line _ c.reading.result a.out.now _ c.in-Value.is c.reading.ensures c.put_reading_line.ensures

pub returns-in-Empty : goal.returns-in-Empty
returns-in-Empty g c = rw c.in-Empty.is c.put_bad_line.ensures

pub returns-in-Bad : goal.returns-in-Bad
returns-in-Bad g c = rw c.in-Bad.is c.put_bad_line-in-Bad.ensures
