pub mod Kinds
pub mod Lines
pub mod Options
pub mod Words
