pub mod Gathered
pub mod ImageOf
pub mod Prologues
pub mod Services
pub mod Ticks
