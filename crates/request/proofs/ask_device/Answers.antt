-- `fill` is no call of the device.
use Rattle.std.proofs.Common.{rules}
use Rattle.script.proofs.Same.{equal_same}
use Rattle.request.proofs.Asking.{device_fill}
use Rattle.request.proofs.ask_device.Goals as goal

pub returns-then-eq-2-clause-asks : goal.returns-then-eq-2-clause-asks
returns-then-eq-2-clause-asks g c = device_fill _ _ _ _ _ _ _ (search (rules, equal_same)) (search (rules, equal_same)) c.fill.ensures
