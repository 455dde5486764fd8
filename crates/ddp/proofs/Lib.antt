pub mod Inside
pub mod Round
pub mod Segments
