pub mod Codes
pub mod Leaving
pub mod Distances
pub mod Filling
pub mod Keeping
pub mod Tables
