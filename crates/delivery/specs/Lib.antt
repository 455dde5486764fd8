pub mod Delivery
pub mod Promise
pub mod Streamed
pub mod Device
