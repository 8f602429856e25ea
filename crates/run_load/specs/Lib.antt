pub mod RunLines
pub mod RunText
pub mod Seen
pub mod Soon
pub mod Ticks
pub mod Watched
pub mod Work
