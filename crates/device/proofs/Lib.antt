pub mod Applied
pub mod Offered
pub mod Received
