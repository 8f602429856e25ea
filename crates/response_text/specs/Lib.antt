pub mod Inputs
pub mod Lines
pub mod PartNames
pub mod Parts
pub mod Reasons
pub mod ResponseText
pub mod TaskText
