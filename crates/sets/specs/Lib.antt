pub mod Sets
pub mod Layers
pub mod Told
pub mod Points
