pub mod Boot
pub mod Idle
pub mod Vectors
pub mod Fresh
pub mod Resuming
pub mod Places
pub mod Pieces
