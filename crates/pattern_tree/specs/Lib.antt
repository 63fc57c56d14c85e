pub mod Order
pub mod Reached
pub mod Standing
