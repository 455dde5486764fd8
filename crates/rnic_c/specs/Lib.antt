pub mod Written
pub mod Startup
pub mod Framing
