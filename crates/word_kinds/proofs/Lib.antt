pub mod Digits
pub mod Forms
pub mod ConstantWords
