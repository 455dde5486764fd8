pub mod Carried
pub mod Words
