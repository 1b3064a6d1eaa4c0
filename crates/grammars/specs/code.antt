pub mod Listed
pub mod Read
pub mod Parts
