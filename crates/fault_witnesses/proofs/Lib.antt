pub mod Broken
pub mod Shown
pub mod Kept
pub mod Straight
pub mod Clean
pub mod Holding
pub mod Chained
pub mod Marked
