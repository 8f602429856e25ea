pub mod Bodies
pub mod CodeLengths
pub mod LongestPaths
