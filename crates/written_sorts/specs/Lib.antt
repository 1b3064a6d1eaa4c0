pub mod Written
pub mod code
