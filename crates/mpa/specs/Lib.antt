pub mod Fpdu
pub mod Startup
