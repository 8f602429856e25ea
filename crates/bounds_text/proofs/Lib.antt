mod Lines
pub mod OneText
mod Keeping
pub mod KeptCounts
pub mod KeptLatency
mod TickLines
pub mod OneLatency
mod CountLines
pub mod OneLowerCounts
mod Told
pub mod OneTold
pub mod KeptTold
