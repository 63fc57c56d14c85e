pub mod Decisions
pub mod Origins
pub mod Places
