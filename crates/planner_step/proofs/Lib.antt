pub mod Covered
pub mod Stepping
pub mod Replies
pub mod Stuck
pub mod Along
