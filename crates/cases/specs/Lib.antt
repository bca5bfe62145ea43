pub mod Papers
pub mod Examples
