pub mod EventLines
pub mod MadeEvents
pub mod OneSequence
pub mod ProgramAgrees
pub mod ProgramEnds
pub mod ProgramKeeps
pub mod ProgramLines
pub mod ProgramsTold
pub mod ProgramsTraced
pub mod PutInComes
pub mod PutInLaws
pub mod ReadPrograms
pub mod RunningWell
pub mod Sequencing
pub mod TicksCount
pub mod ToldRoom
mod WrittenPrograms
