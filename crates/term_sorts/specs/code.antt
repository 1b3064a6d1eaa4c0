pub mod Signatures
pub mod Sorting
pub mod Forms
pub mod Operands
pub mod Rules
pub mod Calls
pub mod Nodes
