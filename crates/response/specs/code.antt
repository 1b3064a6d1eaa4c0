pub mod Responding
pub mod Answers
pub mod Outlines
pub mod Functions
