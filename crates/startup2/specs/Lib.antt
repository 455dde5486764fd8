pub mod Terms
pub mod Frame
pub mod Agree
