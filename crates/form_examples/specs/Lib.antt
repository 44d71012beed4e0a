pub mod CheckExamples
pub mod EventExamples
pub mod RunExamples
pub mod WatchExamples
pub mod WishExamples
