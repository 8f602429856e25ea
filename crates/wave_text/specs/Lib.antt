pub mod Changes
pub mod Header
pub mod Reading
pub mod Text
pub mod Waves
pub mod Signals
pub mod Moments
