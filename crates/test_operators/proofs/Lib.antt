pub mod Taken
pub mod WideTaken
