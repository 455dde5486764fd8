-- `decode_tally` meets its contract: both numbers are taken from one word.
use Rattle.block.proofs.reads.decode_tally.Goals as goal

pub returns : goal.returns
returns c = λ i. record { msn = c.lower.ensures i; count = c.upper.ensures i }
