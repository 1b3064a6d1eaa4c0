pub mod Fewer
pub mod Limits
pub mod Names
pub mod TablePart
