-- `requests_in` meets its contract: each element is what a callee says.
use mathlib.Core.List.{[], ◌∷◌}
use Rattle.block.proofs.reads.requests_in.Goals as goal

pub returns : goal.returns
returns c = λ i. c.request_in.ensures i ∷ c.request_in-2.ensures i ∷ c.request_in-3.ensures i ∷ c.request_in-4.ensures i ∷ c.request_in-5.ensures i ∷ c.request_in-6.ensures i ∷ c.request_in-7.ensures i ∷ c.request_in-8.ensures i ∷ []
