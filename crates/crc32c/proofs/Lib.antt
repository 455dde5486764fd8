pub mod Words
pub mod Chunks
pub mod Lanes
pub mod Tables
