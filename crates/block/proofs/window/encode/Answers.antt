-- `encode` meets its contract: a window in range is read back from its words.
use borrow.Author.Rules.{rules}
use Rattle.block.proofs.Packing.{window_back}
use Rattle.block.proofs.window.encode.Goals as goal

pub returns : goal.returns
returns c = (simp (c.access_word.ensures, c.pair.ensures.0), window_back _ (search rules) (search rules) (search rules) (search rules))
