pub mod Pending
pub mod Offer
pub mod Machine
