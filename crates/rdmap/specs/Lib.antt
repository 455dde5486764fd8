pub mod Refusal
pub mod Phase
pub mod Framing
pub mod Sends
pub mod Read
pub mod Terminates
pub mod Stream
pub mod Message
