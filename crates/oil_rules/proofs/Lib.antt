mod Doubles
mod Fronts
mod KeptReferences
mod NamedTasks
pub mod NoFaults
pub mod Lists
pub mod Attributes
pub mod RangeNames
pub mod RangeEvents
pub mod Unions
pub mod RangeUnions
pub mod RangeTasks
pub mod RangeExtended
pub mod InBlocks
pub mod AlarmParts
pub mod RangeCounters
pub mod RangeNamed
pub mod RangeAlarms
pub mod RangeApart
pub mod Range
