pub mod Answers
pub mod Others
pub mod Origins
pub mod Reading
pub mod Writing
pub mod Laws
