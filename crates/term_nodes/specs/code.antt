pub mod Table
pub mod Gather
pub mod RuleGathering
pub mod Sizes
pub mod Says
pub mod Limits
