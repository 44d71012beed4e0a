mod Projecting
mod SubjectProjected
pub mod KeptSubjects
