pub mod Settled
pub mod Lightest
pub mod Laws
