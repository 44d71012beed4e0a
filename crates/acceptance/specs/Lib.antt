pub mod AllWays
pub mod Clashes
pub mod Depths
pub mod Falsified
pub mod Laws
pub mod Marks
pub mod Pieces
pub mod Refusals
