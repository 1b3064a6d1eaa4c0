pub mod Assured
pub mod Sorted
pub mod Texts
pub mod Held
