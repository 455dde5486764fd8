pub mod InTurn
pub mod Payload
