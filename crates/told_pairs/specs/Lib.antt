pub mod Keys
pub mod Wants
pub mod Tellings
