pub mod OneText
pub mod Reach
mod Steps
pub mod ByState
mod Places
mod FormulaReading
mod NamesApart
mod Pairs
mod TableReading
mod OwnTables
mod Digits
