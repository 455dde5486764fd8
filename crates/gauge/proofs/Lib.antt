pub mod Digits
pub mod Places
pub mod Steps
pub mod Lines
pub mod Bits
