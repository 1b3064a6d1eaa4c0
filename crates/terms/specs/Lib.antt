pub mod Labels
pub mod Sorts
pub mod Costs
pub mod Values
pub mod code
