mod Appends
pub mod Blocks
mod Crash
pub mod Endings
mod Formats
pub mod Moments
mod Reading
pub mod Unique
