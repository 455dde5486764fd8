pub mod Gathered
pub mod Held
pub mod Machine
pub mod Pending
pub mod Rooms
