-- The bits so far are carried on over.
use Rattle.std.proofs.Common.{◌≡◌}
use Rattle.crc_bits.specs.Crc.{crc_bits_of}
use Rattle.crc_bits.proofs.shift.zero_byte.Given as goal

abbrev pub invariant-loop : goal.invariant-loop
invariant-loop l = l.r ≡ crc_bits_of l.counter l.c
