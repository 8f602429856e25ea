pub mod Command
pub mod Words
pub mod LastLine
pub mod Tools
pub mod ImageReaders
pub mod Lines
pub mod Statuses
