-- `read` meets its contract, a test at a time.
use mathlib.Core.Bool.{true, false}
use mathlib.Core.Path.{refl}
use Rattle.meter.proofs.Cases.{one, two, before_first, reads_as}
use Rattle.meter.proofs.gauge.read.Goals as goal

pub returns-then-level : goal.returns-then-level
returns-then-level c = let a = c.args in reads_as a.g a.ticked true _ c.if-ticked.true (rw one at c.if-level.true) refl

pub returns-then-level-peak : goal.returns-then-level-peak
returns-then-level-peak c = let a = c.args in reads_as a.g a.ticked false true c.if-ticked.true (rw one at c.if-level.false) (rw two at c.if-level-peak.true)

pub returns-then-ticked : goal.returns-then-ticked
returns-then-ticked c = let a = c.args in reads_as a.g a.ticked false false c.if-ticked.true (rw one at c.if-level.false) (rw two at c.if-level-peak.false)

pub returns : goal.returns
returns c = let a = c.args in before_first a.g a.ticked c.if-ticked.false
