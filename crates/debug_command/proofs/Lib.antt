pub mod BothRead
pub mod DebugRan
pub mod Ending
