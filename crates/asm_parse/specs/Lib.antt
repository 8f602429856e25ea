pub mod Operations
pub mod Numbered
pub mod Apps
pub mod NameFaults
pub mod AppTexts
