pub mod Chains
pub mod Counts
pub mod Laws
pub mod Progress
pub mod Pumps
pub mod Sends
