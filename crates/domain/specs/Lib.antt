pub mod Domain
pub mod Sharing
