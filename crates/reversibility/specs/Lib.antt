pub mod Chains
pub mod ClassParts
pub mod Levels
pub mod Homes
pub mod Paths
pub mod Promises
