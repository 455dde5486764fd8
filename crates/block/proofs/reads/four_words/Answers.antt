-- `four_words` meets its contract: each request is read back from its words.
use Rattle.block.proofs.reads.four_words.Goals as goal

pub returns : goal.returns
returns c = (simp (c.stags_word.ensures.0, c.stags_word-2.ensures.0, c.stags_word-3.ensures.0, c.stags_word-4.ensures.0), c.stags_word.ensures.1, c.stags_word-2.ensures.1, c.stags_word-3.ensures.1, c.stags_word-4.ensures.1)
