pub mod LineGrammar
pub mod OneRequest
pub mod RequestsFit
pub mod RequestsOfWords
pub mod TableOfCodes
