pub mod Items
pub mod Requests
pub mod Words
