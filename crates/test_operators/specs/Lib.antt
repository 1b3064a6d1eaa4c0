pub mod Alike
pub mod Wide
