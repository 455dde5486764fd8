pub mod Offer
pub mod Rnic
