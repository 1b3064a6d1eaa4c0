pub mod Blanking
pub mod BodiesAnswer
pub mod TextsAnswer
