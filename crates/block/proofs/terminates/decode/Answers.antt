-- `decode` meets its contract: each field is what a callee or a word says.
use Rattle.block.proofs.terminates.decode.Goals as goal

pub returns : goal.returns
returns c = λ i. record { msn = c.lower.ensures i }
