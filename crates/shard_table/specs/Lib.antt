pub mod Answering
pub mod Effects
pub mod Hearing
pub mod Holding
