pub mod CallLaws
pub mod Calls
pub mod Owned
pub mod Statuses
