pub mod Listing
pub mod Grammars
pub mod code
