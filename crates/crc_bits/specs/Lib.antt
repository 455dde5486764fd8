pub mod Crc
pub mod Shift
