pub mod KindNames
pub mod Listed
pub mod NumberLaws
pub mod NumberedLines
pub mod ReportNumbers
