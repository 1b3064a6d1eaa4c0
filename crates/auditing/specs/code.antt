pub mod Files
pub mod Lists
