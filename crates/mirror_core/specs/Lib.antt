pub mod Decisions
pub mod Entries
