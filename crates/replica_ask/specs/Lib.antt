pub mod Askers
pub mod Filters
pub mod Orders
