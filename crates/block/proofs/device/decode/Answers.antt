-- `decode` meets its contract: each field is what a callee or a word says.
use Rattle.block.proofs.device.decode.Goals as goal

pub returns : goal.returns
returns c = λ i. record { start = c.lower.ensures i; end = c.upper.ensures i }
