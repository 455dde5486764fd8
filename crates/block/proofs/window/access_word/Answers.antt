-- `access_word` meets its contract: a flag is at most 1, so that the sums fit.
use native.Mathlib.Omega.{arith}
use Rattle.block.proofs.window.access_word.Goals as goal

pub overflow_add-result : goal.overflow_add-result
overflow_add-result c = omega (arith, c.flag.ensures.1)

pub overflow_add-result-2 : goal.overflow_add-result-2
overflow_add-result-2 c = omega (arith, c.flag.ensures.1)
