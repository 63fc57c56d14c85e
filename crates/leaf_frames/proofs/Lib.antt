mod Addresses
mod Fieldings
mod Givings
mod Splits
mod Written
mod WrittenMessages
