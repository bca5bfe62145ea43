pub mod Faults
pub mod Rules
pub mod Verdict
pub mod Shown
pub mod Plain
pub mod Complete
pub mod Lists
