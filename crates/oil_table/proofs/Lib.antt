pub mod Indexes
pub mod Names
