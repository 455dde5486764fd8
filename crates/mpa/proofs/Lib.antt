pub mod Frames
pub mod Length
pub mod ReadBack
pub mod Startups
pub mod Taken
pub mod Apart
