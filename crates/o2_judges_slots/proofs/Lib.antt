pub mod BlocksUnder
pub mod JournalParts
