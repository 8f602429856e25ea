mod Codes
mod Declaring
mod Dumping
pub mod ReadBack
mod Waving
