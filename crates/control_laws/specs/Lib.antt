pub mod Asked
pub mod Examples
pub mod Laws
pub mod Rest
pub mod Turns
