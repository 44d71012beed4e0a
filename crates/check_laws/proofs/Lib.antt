pub mod StepsAgain
pub mod CheckedPlans
