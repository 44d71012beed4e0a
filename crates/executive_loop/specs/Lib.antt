pub mod Covering
pub mod Parts
pub mod Answered
pub mod Borrowed
pub mod Copied
