pub mod Image
pub mod Items
pub mod Linked
pub mod Room
pub mod Standing
pub mod Symbols
