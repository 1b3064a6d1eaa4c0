pub mod Tables
pub mod Budget
pub mod Evaluator
pub mod Running
pub mod Costs
pub mod Points
