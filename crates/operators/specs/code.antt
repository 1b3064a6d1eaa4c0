pub mod Operators
pub mod Vectors
pub mod Rules
pub mod Sorting
