mod Rows
mod Levels
