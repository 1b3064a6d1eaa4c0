pub mod Synthesizing
pub mod Command
pub mod NameTests
pub mod SortTests
pub mod Rows
