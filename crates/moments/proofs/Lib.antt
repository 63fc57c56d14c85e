mod Calendar
pub mod Clock
