pub mod Listed
pub mod Answered
pub mod Rooted
pub mod Found
pub mod Firsts
pub mod Chunks
pub mod Entered
pub mod Claimed
