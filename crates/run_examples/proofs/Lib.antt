pub mod Shards
pub mod Worlds
pub mod Origin
pub mod Mirror
pub mod Copying
pub mod Stepping
pub mod Settled
pub mod CopiedInSteps
