-- What a table of half bytes holds.
use Rattle.std.specs.Prelude.{ℕ}
use Rattle.crc_bits.specs.Crc.{crc_bits_of}

-- what n bits make of c
unfoldable pub after : ℕ → ℕ → ℕ
after n c = crc_bits_of n c
