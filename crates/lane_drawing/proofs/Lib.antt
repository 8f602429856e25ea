pub mod Growing
pub mod Ranges
