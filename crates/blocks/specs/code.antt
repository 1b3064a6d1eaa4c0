pub mod Below
pub mod Places
pub mod Lists
pub mod Shown
