pub mod Rooms
pub mod Offsets
pub mod TextLexemes
pub mod ScriptText
pub mod ResponseText
