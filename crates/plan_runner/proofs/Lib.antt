pub mod Growing
pub mod GoingBack
pub mod ThereAndBack
pub mod StillStuck
