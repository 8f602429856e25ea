pub mod Moments
pub mod Short
pub mod Steps
