pub mod Model
pub mod Leads
