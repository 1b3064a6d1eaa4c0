pub mod Bools
pub mod Laws
pub mod Lists
pub mod Nodes
pub mod Options
pub mod Rows
pub mod Searching
