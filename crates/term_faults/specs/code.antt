pub mod Bodies
pub mod Roots
pub mod Grammars
