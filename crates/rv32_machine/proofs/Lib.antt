pub mod Fetching
pub mod Taking
pub mod Stepping
pub mod Runs
pub mod Coherence
pub mod Fitting
