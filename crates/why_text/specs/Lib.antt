pub mod RuleLines
pub mod NamedFaults
pub mod NameLines
pub mod WhyLines
