pub mod Xor
pub mod Linear
pub mod Range
pub mod Vectors
pub mod Carry
pub mod Shifts
