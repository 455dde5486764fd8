-- A CRC is a number of 32 bits.
-- Assumes nothing.
use mathlib.Core.List.{List}
use Prim.Native.Nat.{ℕ, ◌^◌, ◌<◌}
use native.Mathlib.Omega.{arith}
use Rattle.crc_bits.specs.Crc.{crc_of}

pub crc_lt : (bs : List ℕ) → crc_of bs < 2 ^ 32
unfolding crc_of
crc_lt bs = omega arith
