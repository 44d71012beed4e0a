pub mod EachKind
pub mod FoundPlaces
pub mod NamesAreNumbers
pub mod NumbersBySubject
pub mod NumbersPrint
pub mod SmallCounts
