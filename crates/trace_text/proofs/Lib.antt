pub mod Appends
pub mod Digits
pub mod TasksBack
pub mod EventsBack
pub mod Kept
pub mod LineByLine
pub mod LineReading
