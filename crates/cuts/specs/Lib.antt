pub mod Cuts
pub mod Received
