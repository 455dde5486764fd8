-- `after_line` meets its contract: a sample is a tick, and nothing else is.
use Rattle.gauge.proofs.run.after_line.Goals as goal

pub returns-in-Value : goal.returns-in-Value
returns-in-Value c = rw c.in-Value.is c.tick.ensures
