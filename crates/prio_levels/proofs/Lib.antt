pub mod Counting
pub mod Greatest
pub mod Facts
