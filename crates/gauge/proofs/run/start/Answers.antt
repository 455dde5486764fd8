-- `start` meets its contract.
use Rattle.gauge.proofs.run.start.Goals as goal

pub returns : goal.returns
returns c = rw c.new_meter.ensures
