pub mod Prefix
pub mod Rules
pub mod Chain
pub mod Fit
pub mod Whole
