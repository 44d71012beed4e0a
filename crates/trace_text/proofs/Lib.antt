mod AsciiNames
mod ChosenRows
mod CommandWords
mod CutLines
pub mod FittingLines
mod JsonExamples
mod KeyOrder
pub mod LeftToPush
mod LineExamples
mod LinesAsWords
mod MappedCommands
mod NoFloats
pub mod OneTextEach
mod PairsApart
mod PlainNames
mod ReadReports
mod ReadWords
mod RefusalRoom
mod ReportRoom
mod RowsOfModels
mod SameMembers
pub mod ShortLines
mod ShortWords
mod WordsApart
