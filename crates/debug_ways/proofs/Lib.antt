pub mod Keeping
pub mod Searching
pub mod Continuing
pub mod Sides
