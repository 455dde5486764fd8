-- `buffers_in` meets its contract: each element is what a callee says.
use mathlib.Core.List.{[], ◌∷◌}
use Rattle.block.proofs.sends.buffers_in.Goals as goal

pub returns : goal.returns
returns c = λ i. record { count = c.upper.ensures i; entries = c.buffer_in.ensures i ∷ c.buffer_in-2.ensures i ∷ c.buffer_in-3.ensures i ∷ c.buffer_in-4.ensures i ∷ c.buffer_in-5.ensures i ∷ c.buffer_in-6.ensures i ∷ c.buffer_in-7.ensures i ∷ c.buffer_in-8.ensures i ∷ [] }
