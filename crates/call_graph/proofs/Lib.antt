pub mod Counted
pub mod Itself
pub mod Belongs
pub mod Few
pub mod Sets
pub mod Closure
pub mod Growing
