pub mod Places
pub mod Headers
