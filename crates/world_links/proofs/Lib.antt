pub mod Places
pub mod Sending
pub mod Busy
