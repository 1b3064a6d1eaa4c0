pub mod Reserved
pub mod Lists
pub mod code
