pub mod Steps
pub mod Stack
pub mod Ends
pub mod code
