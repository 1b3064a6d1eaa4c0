pub mod Tables
pub mod Taken
pub mod Places
pub mod Signatures
pub mod Answers
