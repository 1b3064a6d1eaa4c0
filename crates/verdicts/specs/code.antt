pub mod Derive
pub mod Evaluate
