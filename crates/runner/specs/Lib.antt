pub mod Running
pub mod code
