pub mod Heads
pub mod Tokens
pub mod code
