pub mod Headers
pub mod Legal
pub mod Visible
pub mod Words
