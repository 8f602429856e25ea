pub mod SystemText
pub mod Samples
pub mod Accesses
pub mod Admissions
pub mod ServiceWords
pub mod Addresses
