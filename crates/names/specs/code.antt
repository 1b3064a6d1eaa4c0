pub mod Table
pub mod Lookup
pub mod Meanings
pub mod Forms
pub mod Nodes
pub mod New
pub mod Earlier
