pub mod Items
pub mod WatchEvents
