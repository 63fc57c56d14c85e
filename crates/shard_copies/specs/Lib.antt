pub mod Standing
pub mod Pumped
pub mod Asked
pub mod Places
