pub mod Planning
pub mod Toward
pub mod Served
