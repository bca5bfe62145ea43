pub mod Reached
pub mod Resulting
