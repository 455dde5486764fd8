pub mod Look
pub mod Fault
