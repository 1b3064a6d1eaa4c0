pub mod Chains
pub mod Faults
pub mod Gathering
pub mod Lines
pub mod Offsets
pub mod ScanTurns
pub mod WholeText
pub mod Unique
