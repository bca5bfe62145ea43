pub mod Decoded
pub mod Made
pub mod After
pub mod Following
pub mod Claims
