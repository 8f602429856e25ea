pub mod Told
pub mod ToldLines
pub mod ToldNarrow
pub mod ToldNames
pub mod ToldModel
