pub mod NoFields
pub mod Gains
pub mod LinePuts
pub mod Passing
pub mod Files
pub mod Reading
pub mod Delivering
mod Called
