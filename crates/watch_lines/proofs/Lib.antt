pub mod EventsFit
pub mod EventsOfWords
pub mod LineGrammar
pub mod OneWatchEvent
mod SentCodes
