pub mod Passes
pub mod Taken
pub mod Running
pub mod Rules
pub mod States
