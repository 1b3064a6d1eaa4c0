pub mod Ranks
pub mod Matching
pub mod Search
pub mod Derive
pub mod Masks
pub mod Filling
pub mod Showing
