pub mod Runs
pub mod Wholes
pub mod Carrying
pub mod Adding
