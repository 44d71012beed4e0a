pub mod BoundsCausesFirst
pub mod FirstFalsified
pub mod NeededMarks
pub mod OneRefusal
pub mod RefusalSteps
pub mod AllWaysFound
pub mod FirstWorldless
