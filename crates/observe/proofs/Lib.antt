pub mod Cutting
pub mod Moments
pub mod Touching
pub mod Growing
pub mod Turning
pub mod Feeding
pub mod Rule
pub mod Masking
pub mod Places
mod Rows
mod LeavingRows
mod PassingBy
pub mod Marking
