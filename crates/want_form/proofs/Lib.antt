pub mod Answering
pub mod WantForm
pub mod WeightsSet
pub mod WishTelling
