pub mod Limits
pub mod Naming
pub mod Script
pub mod Response
pub mod Outcome
pub mod Rows
pub mod code
