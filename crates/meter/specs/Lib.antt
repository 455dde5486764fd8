pub mod Gauge
pub mod Words
pub mod Invariant
