mod AreaFaults
mod Areas
mod Growing
mod Loads
mod Readable
mod Reopening
mod Running
mod ShortRecords
