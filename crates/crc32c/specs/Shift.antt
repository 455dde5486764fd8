-- Products of running values and joined CRCs are those of the crate `crc_bits`: they are passed on.
pub use Rattle.crc_bits.specs.Shift.{one}
unfoldable pub use Rattle.crc_bits.specs.Shift.{times_bits, times, power_of, joined}
