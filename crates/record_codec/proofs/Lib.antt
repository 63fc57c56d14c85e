pub mod Codecs
pub mod Entries
pub mod FieldCodecs
pub mod Loops
pub mod Parts
pub mod Skims
pub mod Spelled
pub mod Writes
