pub mod DenseClauses
pub mod Found
pub mod Many
pub mod Partial
pub mod Primes
