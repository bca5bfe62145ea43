pub mod Soundly
pub mod Judged
pub mod Plainly
pub mod Plainest
pub mod Completely
pub mod Listed
