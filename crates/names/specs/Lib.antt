pub mod Scopes
pub mod Unknown
pub mod New
pub mod Earlier
pub mod code
