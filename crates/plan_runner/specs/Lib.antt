pub mod Plans
pub mod Walked
pub mod WaysBack
