pub mod Cases
pub mod Nonneg
pub mod Eighth
pub mod Level
pub mod Invariant
pub mod Bits
pub mod Encoding
