pub mod Judged
mod Rows
pub mod Objects
