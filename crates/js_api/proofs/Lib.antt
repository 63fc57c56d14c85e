mod Floats
mod Json
mod Configs
mod Lines
mod Texts
mod Topics
mod Words
