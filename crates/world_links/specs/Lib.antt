pub mod States
pub mod Carrying
