pub mod Heads
pub mod Turns
pub mod Written
