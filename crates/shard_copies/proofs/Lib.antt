pub mod Lookups
pub mod Shows
pub mod Steps
pub mod CopyAsks
pub mod Beating
pub mod Deciding
