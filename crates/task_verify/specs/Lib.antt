pub mod Accepted
pub mod Tests
pub mod Uses
pub mod Labels
pub mod Ways
pub mod Cases
