pub mod Needs
pub mod Answers
pub mod Search
pub mod Laws
