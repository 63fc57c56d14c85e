pub mod Feeds
pub mod Frames
pub mod Json
pub mod Kinds
pub mod Laws
pub mod Texts
