mod Rows
pub mod NextSample
pub mod OneSample
mod DueArrivals
pub mod Noted
