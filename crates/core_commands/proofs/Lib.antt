pub mod CallFiles
pub mod OwnOutput
pub mod InOrder
mod Ceilings
mod OnlyRuns
mod Judged
mod Listed
pub mod ToolEnds
pub mod ToolReads
pub mod Causes
pub mod Complete
mod ImageCauses
pub mod ImageComplete
mod SampleCauses
pub mod SampleComplete
pub mod NoTools
mod InMemoryCalls
pub mod Declared
pub mod Shipped
pub mod HandedOn
