pub mod TaskOwing
pub mod Owing
pub mod Together
