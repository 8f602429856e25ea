pub mod Faulted
pub mod Descriptions
pub mod Notes
pub mod Steps
pub mod Whole
pub mod Frames
