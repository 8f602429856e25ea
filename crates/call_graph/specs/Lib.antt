pub mod Cycles
pub mod Reached
pub mod Gathered
pub mod Ranks
pub mod Tables
pub mod Bits
pub mod Rows
