pub mod Heads
pub mod Compare
