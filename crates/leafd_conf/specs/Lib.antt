pub mod Confs
pub mod Kinds
pub mod Profile
