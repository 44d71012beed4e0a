pub mod CallsLeadOn
pub mod CallsPrintRuns
pub mod CallsAnswer
pub mod Held
