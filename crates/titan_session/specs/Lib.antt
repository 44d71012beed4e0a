pub mod RunSessions
pub mod SessionLaws
pub mod Sessions
