-- `encode` meets its contract: a part in range is read back from its word.
use borrow.Author.Rules.{rules}
use Rattle.block.proofs.Packing.{part_back}
use Rattle.block.proofs.device.encode.Goals as goal

pub returns : goal.returns
returns c = (c.pair.ensures.0, part_back _ (search rules) (search rules))
