mod Loads
pub mod Places
