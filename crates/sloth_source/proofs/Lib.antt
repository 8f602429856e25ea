pub mod Readings
pub mod Least
mod OilParts
mod SourceParts
pub mod Unique
pub mod Refusals
pub mod RankedTexts
mod FirstRefusal
mod Named
pub mod Meaning
