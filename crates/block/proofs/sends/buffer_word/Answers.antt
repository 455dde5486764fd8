-- `buffer_word` meets its contract: a buffer in range is read back from its word.
use borrow.Author.Rules.{rules}
use Rattle.block.proofs.Packing.{buffer_back}
use Rattle.block.proofs.sends.buffer_word.Goals as goal

pub returns : goal.returns
returns c = (c.pair.ensures.0, buffer_back _ (search rules) (search rules))
