pub mod Paths
pub mod Tracked
pub mod Interleaved
pub mod Joining
mod ShortPaths
pub mod Windows
mod TickNumbers
mod Latest
pub mod Since
mod SmallTrackers
