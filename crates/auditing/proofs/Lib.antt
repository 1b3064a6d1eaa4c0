pub mod ListFollowed
pub mod FollowTurns
pub mod TextsAudited
pub mod FileAnswer
