pub mod Answered
pub mod OneStep
pub mod WantLaws
pub mod WantMeaning
pub mod WishMachine
pub mod Wishes
