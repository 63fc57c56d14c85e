pub mod Own
pub mod Turns
pub mod Shares
pub mod Seats
pub mod Lending
