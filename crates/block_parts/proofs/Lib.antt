pub mod Serving
pub mod Returning
pub mod Busy
pub mod Landing
pub mod Objects
