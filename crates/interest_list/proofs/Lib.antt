pub mod Steps
pub mod Places
pub mod Choosing
pub mod Rising
pub mod Taking
pub mod Reached
