pub mod TextsAnswer
pub mod Judgements
pub mod Sizing
pub mod StepsHeld
pub mod StepsAnswer
pub mod FileNumbers
