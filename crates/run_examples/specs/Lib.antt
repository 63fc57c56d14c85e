pub mod Copied
pub mod Stepped
