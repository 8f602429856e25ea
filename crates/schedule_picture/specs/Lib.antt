pub mod Drawn
pub mod Lanes
pub mod LaneLooks
pub mod Marks
pub mod Picture
pub mod Samples
pub mod Items
