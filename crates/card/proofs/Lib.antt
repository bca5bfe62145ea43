pub mod Laws
pub mod Completeness
pub mod Heard
