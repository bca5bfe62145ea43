pub mod Hex
pub mod Names
pub mod Answers
