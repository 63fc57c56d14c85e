pub mod Causes
pub mod Clocks
pub mod Disks
pub mod Files
pub mod Memory
