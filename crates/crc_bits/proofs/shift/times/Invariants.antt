-- The sum, carried on over the bits that are left, and the product of what is left of p are the product.
use Rattle.std.proofs.Common.{◌≡◌, ◌-◌, ◌^◌, ◌<◌}
use Rattle.std.specs.Int.Bits.{bit_xor}
use Rattle.crc_bits.specs.Crc.{crc_bits_of}
use Rattle.crc_bits.specs.Shift.{times_bits, times}
use Rattle.crc_bits.proofs.shift.times.Given as goal

abbrev pub invariant-loop : goal.invariant-loop
invariant-loop l =
    (l.sum < 2 ^ 32) × (times l.p l.q ≡ bit_xor (crc_bits_of (32 - l.counter) l.sum) (times_bits (32 - l.counter) l.left l.q))
