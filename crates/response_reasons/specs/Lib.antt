pub mod Doubled
pub mod Loops
pub mod LoopCode
pub mod Reasons
pub mod EarlySections
pub mod Calls
