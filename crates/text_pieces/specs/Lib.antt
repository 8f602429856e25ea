pub mod Bytes
pub mod Digits
pub mod Lines
pub mod Names
pub mod Pieces
