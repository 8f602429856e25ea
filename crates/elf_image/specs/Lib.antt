pub mod Reading
pub mod ElfText
pub mod Faults
