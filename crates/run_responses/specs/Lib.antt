pub mod Meeting
pub mod TickWindows
