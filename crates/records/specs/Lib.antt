pub mod Faults
pub mod Kinds
pub mod Cuts
pub mod Single
pub mod Walks
pub mod Papers
