pub mod Orders
pub mod Lists
pub mod Targets
pub mod Tellings
pub mod Changes
pub mod Taking
