-- `decode` meets its contract: each field is what a callee or a word says.
use Rattle.block.proofs.reads.decode.Goals as goal

pub returns : goal.returns
returns c = λ i. record { msn = c.lower.ensures i; count = c.upper.ensures i; entries = c.requests_in.ensures i }
