pub mod Both
pub mod Located
pub mod Lengths
pub mod Tables
