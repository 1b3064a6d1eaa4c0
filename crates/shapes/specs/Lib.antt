pub mod Shapes
pub mod Carried
pub mod code
