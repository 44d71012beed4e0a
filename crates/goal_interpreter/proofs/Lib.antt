pub mod WeightLaws
pub mod LightModes
pub mod Candidates
pub mod Choices
pub mod Interpreted
pub mod OneAnswer
