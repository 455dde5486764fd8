pub mod Args
pub mod Frames
