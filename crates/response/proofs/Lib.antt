pub mod BodyItem
pub mod Picked
pub mod ShapeAndLimits
pub mod HeldToFunction
pub mod BodyTaken
pub mod ItemRead
pub mod ListRead
pub mod NoList
