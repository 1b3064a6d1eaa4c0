pub mod Bytes
pub mod Limits
pub mod Kinds
pub mod Decimals
pub mod code
