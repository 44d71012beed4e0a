pub mod AskedForm
pub mod Done
pub mod EndsRefused
pub mod OneAsked
pub mod Silent
pub mod Telling
