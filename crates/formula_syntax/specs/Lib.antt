pub mod Grammar
pub mod Least
pub mod Lookups
pub mod ReadParts
pub mod FormulaParser
pub mod Meanings
pub mod Answers
