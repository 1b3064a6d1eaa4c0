pub mod Values
pub mod Signed
pub mod Sorts
pub mod Operators
pub mod code
