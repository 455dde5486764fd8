pub mod Slots
pub mod Windows
pub mod Shared
