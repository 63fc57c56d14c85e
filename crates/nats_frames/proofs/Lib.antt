pub mod Again
mod Carries
pub mod Decimals
mod Deliveries
pub mod Ends
pub mod Feeds
mod Firsts
pub mod Givings
pub mod JsonFrames
pub mod Jsons
mod Looks
pub mod Names
mod Objects
pub mod Parts
pub mod Readable
pub mod Runs
pub mod Sides
pub mod Streams
pub mod Takes
mod Trims
mod Written
