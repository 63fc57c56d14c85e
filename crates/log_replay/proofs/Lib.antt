pub mod LogBodies
pub mod LogKnown
pub mod MapSteps
