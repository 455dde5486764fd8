pub mod Cuts
pub mod Writes
pub mod Began
pub mod Segments
pub mod Asked
pub mod Held
