pub mod Crc
pub mod Tables
pub mod Shift
