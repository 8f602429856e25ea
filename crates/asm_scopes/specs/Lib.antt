pub mod Statements
pub mod Scopes
pub mod Bodies
