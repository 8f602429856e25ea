pub mod DebugAnswers
pub mod DebugRun
pub mod Inputs
pub mod Words
