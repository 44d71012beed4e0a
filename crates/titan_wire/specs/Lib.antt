pub mod Wire
pub mod Memory
pub mod Steady
pub mod Edge
pub mod Front
