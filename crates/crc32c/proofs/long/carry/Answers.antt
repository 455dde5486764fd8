-- `long::carry` meets its contract: the constant is the eight tables, by a test that antt computes over all of their entries.
-- Assumes nothing.
use Rattle.crc_bits.specs.Crc.{crc_bit, xor32}
use Rattle.crc_halves.specs.Tables.{after}
use Rattle.crc32c.proofs.Tables.{are-tables}
use Rattle.crc32c.proofs.long.carry.Goals as goal

pub over_lanes-requires : goal.over_lanes-requires
unfolding after crc_bit xor32
over_lanes-requires c = (are-tables _ tt, c.requires)
