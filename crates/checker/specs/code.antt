pub mod Sizes
pub mod Judge
pub mod Stepping
