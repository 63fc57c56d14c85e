mod Empties
mod Floats
pub mod Json
mod Names
pub mod OneLine
mod Passing
mod ReadBack
pub mod Written
