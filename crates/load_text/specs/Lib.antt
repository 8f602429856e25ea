pub mod LoadText
pub mod Loads
