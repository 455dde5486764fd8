-- `buffer_in` meets its contract: each field is what a callee or a word says.
use Rattle.block.proofs.sends.buffer_in.Goals as goal

pub returns : goal.returns
returns c = λ i. record { start = c.lower.ensures i; len = c.upper.ensures i }
