-- `stags_word` meets its contract: a request in range is read back from its words.
use borrow.Author.Rules.{rules}
use Rattle.block.proofs.Packing.{request_back}
use Rattle.block.proofs.reads.stags_word.Goals as goal

pub returns : goal.returns
returns c = (c.pair.ensures.0, request_back _ (search rules) (search rules) (search rules))
