pub mod ShowMeaning
pub mod Shown
pub mod Shows
