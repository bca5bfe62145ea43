pub mod Rails
pub mod Parts
pub mod Halves
pub mod Full
pub mod Freed
pub mod Applied
