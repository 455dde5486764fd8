pub mod Cuts
pub mod Read
pub mod Received
pub mod Domain
pub mod Cases
