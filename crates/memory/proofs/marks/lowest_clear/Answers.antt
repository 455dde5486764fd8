-- `lowest_clear` meets its contract: the operations are the definition's.
use mathlib.Core.Path.{refl}
use Rattle.memory.specs.Marks.{lowest_clear}
use Rattle.memory.proofs.marks.lowest_clear.Goals as goal

pub returns : goal.returns
unfolding lowest_clear
returns c = refl
