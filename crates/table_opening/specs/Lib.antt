pub mod JournalEvents
pub mod Openings
pub mod Output
