pub mod Fits
pub mod Puts
pub mod Halves
pub mod Back
pub mod Canonical
pub mod Agreement
pub mod Exchange
