pub mod Labels
pub mod Lists
pub mod Uses
pub mod Writing
pub mod Stack
pub mod Ends
