mod WatchExamples
pub mod WatchForm
pub mod WatchLeast
pub mod WatchSteps
pub mod WatchTelling
