pub mod Trace
pub mod Masked
pub mod Place
pub mod Pieces
pub mod Kernel
