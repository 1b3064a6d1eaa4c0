pub mod Limits
pub mod Readings
pub mod Bench
pub mod Counts
pub mod Located
