pub mod Stack
pub mod Running
