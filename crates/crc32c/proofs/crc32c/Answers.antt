-- `crc32c::crc32c` meets its contract.
-- Assumes nothing.
use mathlib.Core.Path.{ap}
use Prim.Native.Nat.{ℕ, ◌-◌}
use Rattle.crc_bits.specs.Crc.{crc_of, all_ones}
use Rattle.crc32c.proofs.crc32c.Goals as goal

pub returns : goal.returns
unfolding crc_of
returns c = ap (λ (n : ℕ). all_ones - n) c.update.ensures
