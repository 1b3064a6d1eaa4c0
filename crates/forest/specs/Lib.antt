pub mod Forest
pub mod Lists
pub mod Search
pub mod code
pub mod Limits
pub mod Tables
