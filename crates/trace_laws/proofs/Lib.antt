pub mod TicksLink
pub mod StaysRight
pub mod CommandsServe
pub mod EventsJoin
pub mod FitsStay
pub mod GoalsServed
mod HeldTicks
pub mod TablesChangeNothing
pub mod OthersBegin
pub mod OneNext
pub mod LampTicks
pub mod PromisesKept
pub mod PendingKnown
pub mod MirrorTicks
pub mod PendingPairs
