pub mod Table
pub mod Scan
pub mod Spans
pub mod Rows
pub mod Links
