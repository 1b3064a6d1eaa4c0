pub mod Forms
pub mod code
