mod InputErrors
pub mod Refused
