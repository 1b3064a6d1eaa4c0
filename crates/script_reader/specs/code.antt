pub mod Commands
pub mod Taken
pub mod Command
pub mod Scripts
pub mod Progress
