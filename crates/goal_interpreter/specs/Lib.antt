pub mod Weights
pub mod Targets
pub mod Laws
pub mod Choosing
