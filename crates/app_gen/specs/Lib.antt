pub mod Draws
pub mod Pieces
pub mod Oil
pub mod Source
pub mod Load
