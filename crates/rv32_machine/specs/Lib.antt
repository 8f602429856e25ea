pub mod Start
pub mod Flat
pub mod RegisterRange
pub mod State
pub mod Advance
pub mod Run
pub mod Coherent
pub mod Lends
