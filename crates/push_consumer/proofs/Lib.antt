mod Counting
mod Finding
mod Holes
mod Pumping
mod Right
mod Sending
mod Windows
