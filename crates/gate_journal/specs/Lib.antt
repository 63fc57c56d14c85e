pub mod Areas
pub mod Journals
pub mod Laws
pub mod Walks
