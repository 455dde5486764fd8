pub mod Layout
pub mod Words
pub mod Queue
pub mod Stream
pub mod Device
pub mod Exchange
