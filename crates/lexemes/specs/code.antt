pub mod Table
pub mod Standing
pub mod Reserved
pub mod Numbering
pub mod Codes
