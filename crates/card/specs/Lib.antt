pub mod Cards
pub mod History
pub mod Law
pub mod Desks
