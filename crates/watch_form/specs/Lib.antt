pub mod Answered
pub mod Calls
pub mod LeastCosts
pub mod OneStep
pub mod WatchExamples
pub mod WatchLaws
pub mod WatchMachine
pub mod WatchMeaning
