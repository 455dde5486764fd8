-- `encode` meets its contract: a phase in range is read back from its word.
use mathlib.Core.Path.{refl}
use borrow.Author.Rules.{rules}
use Rattle.block.proofs.Packing.{phase_back}
use Rattle.block.proofs.phase.encode.Goals as goal

pub returns : goal.returns
returns c = (refl, phase_back _ (search rules) (search rules) (search rules) (search rules) (search rules))
