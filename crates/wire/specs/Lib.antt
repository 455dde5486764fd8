pub mod Wire
pub mod Refusal
