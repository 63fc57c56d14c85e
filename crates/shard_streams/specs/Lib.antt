pub mod Halves
pub mod HeldImages
pub mod Members
pub mod Places
pub mod Plans
