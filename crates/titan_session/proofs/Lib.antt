pub mod CallsAreRuns
pub mod SessionsAreRuns
