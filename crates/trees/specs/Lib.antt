pub mod Faults
pub mod Tree
pub mod Check
pub mod Covers
pub mod Leaves
