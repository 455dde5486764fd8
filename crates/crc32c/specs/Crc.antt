-- The definition, bit by bit, is that of the crate `crc_bits`: it is passed on.
pub use Rattle.crc_bits.specs.Crc.{xor_bits, reflected, poly, crc_bits_of, all_ones}
unfoldable pub use Rattle.crc_bits.specs.Crc.{xor32, crc_bit, crc_byte, crc_run, crc_of}
