pub mod Running
pub mod Exact
