pub mod Places
pub mod BreachTests
pub mod Witnesses
pub mod CleanWays
pub mod BodyLists
pub mod CallChains
pub mod WayLaws
