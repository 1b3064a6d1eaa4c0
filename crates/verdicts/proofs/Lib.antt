pub mod ShownLists
pub mod OneFunction
pub mod DeriveTurns
pub mod VariableSorts
pub mod FunctionsHeld
pub mod StatedRuns
pub mod PointsAnswer
