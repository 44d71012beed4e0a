pub mod CoveredStates
pub mod Policies
pub mod ExecutiveFits
pub mod ShownTicks
pub mod PendingRoom
