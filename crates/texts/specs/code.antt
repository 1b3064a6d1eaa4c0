pub mod Texts
pub mod Lexed
pub mod Scripts
pub mod Responses
