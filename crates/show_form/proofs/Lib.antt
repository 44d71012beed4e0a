pub mod ShowAgrees
pub mod ShowEnds
pub mod ShownModels
