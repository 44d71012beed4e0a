pub mod Trajectories
pub mod Ticks
pub mod Laws
pub mod TrackerLaws
pub mod LatestTicks
pub mod Columns
pub mod Examples
