pub mod Gathered
pub mod Split
