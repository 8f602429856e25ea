pub mod Telling
pub mod Misplaced
pub mod Places
pub mod ToldOnce
pub mod Guarded
pub mod Filtering
