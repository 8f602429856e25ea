pub mod Pieces
pub mod MarkTable
pub mod Observe
pub mod Touches
pub mod Progress
