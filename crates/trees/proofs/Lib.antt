pub mod Steps
pub mod Exactly
pub mod Covered
pub mod Pathways
pub mod Rounds
