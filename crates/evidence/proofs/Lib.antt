pub mod FewFunctions
pub mod Storing
pub mod Once
pub mod Bytes
pub mod Exact
pub mod Written
pub mod Changed
pub mod Sized
