pub mod Summaries
pub mod Items
pub mod Tasks
pub mod Weights
