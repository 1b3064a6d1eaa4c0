pub mod Blocks
pub mod Layout
pub mod code
