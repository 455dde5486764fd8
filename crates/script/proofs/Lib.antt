-- The laws of the definitions in `specs/` that the proofs share, and the theorems on reading back what was written (`Round`).
pub mod Same
pub mod Scan
pub mod Digits
pub mod Placed
pub mod Appended
pub mod Hexed
pub mod Numbers
pub mod Pairs
pub mod Decimal
pub mod Decoding
pub mod Round
