mod Finding
mod Fitting
pub mod Folds
mod Full
pub mod Growth
pub mod KeptRows
mod Marking
mod Mirrors
mod Newest
mod Sending
mod Settling
mod Sources
mod Stepping
mod Totals
mod Trims
pub mod FactLemmas
pub mod SentFacts
pub mod SentOrder
pub mod StateFacts
