pub mod Holding
pub mod OnTop
pub mod Stepping
pub mod Runs
