pub mod Tables
pub mod Matching
pub mod Forms
pub mod Admitted
pub mod Rules
pub mod Masks
pub mod Productive
