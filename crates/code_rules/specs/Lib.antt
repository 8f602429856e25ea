pub mod AppRange
pub mod Code
pub mod WellFormed
