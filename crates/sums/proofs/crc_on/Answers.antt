-- `crc_on` meets its contract: the running value is the inverse before and after.
use mathlib.Core.Path.{ap}
use Prim.Native.Nat.{ℕ, ◌-◌}
use Rattle.crc32c.specs.Crc.{all_ones}
use Rattle.sums.specs.Sums.{crc_on}
use Rattle.sums.proofs.crc_on.Goals as goal

pub returns : goal.returns
unfolding crc_on
returns c = ap (λ (n : ℕ). all_ones - n) c.update.ensures
