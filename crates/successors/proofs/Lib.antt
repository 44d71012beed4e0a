pub mod Sending
pub mod Changes
pub mod Rows
