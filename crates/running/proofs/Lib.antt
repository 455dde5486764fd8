pub mod Gathered
pub mod Lines
pub mod Offers
pub mod Sent
