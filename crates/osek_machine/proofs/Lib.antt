pub mod Follows
pub mod Rooms
pub mod Sound
pub mod Ticked
pub mod Below
pub mod Lines
pub mod Row
pub mod Started
