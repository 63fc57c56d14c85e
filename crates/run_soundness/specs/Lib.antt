pub mod Shards
pub mod Worlds
pub mod Soundness
pub mod Below
pub mod Laws
