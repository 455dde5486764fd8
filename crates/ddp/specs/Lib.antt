pub mod Place
pub mod Refusal
pub mod Tagged
pub mod Untagged
pub mod Header
pub mod Segment
