pub mod Walked
pub mod Width
pub mod Least
pub mod PairParts
pub mod HeaderSorts
