pub mod Apart
pub mod Changes
pub mod Keeping
pub mod Listed
pub mod Literal
pub mod Places
pub mod RowLemmas
pub mod Walks
