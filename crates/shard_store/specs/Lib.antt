pub mod Streams
pub mod Reads
