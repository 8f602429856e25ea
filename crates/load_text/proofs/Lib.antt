pub mod Kept
pub mod FaultLines
