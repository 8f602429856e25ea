pub mod Stacks
pub mod Walks
pub mod Advances
pub mod Stretches
pub mod Closing
