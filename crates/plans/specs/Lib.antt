pub mod Verdicts
pub mod Achieves
pub mod Faults
