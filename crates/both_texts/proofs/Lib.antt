pub mod BothTables
pub mod Reading
pub mod Locating
pub mod LongTexts
pub mod EightTotals
