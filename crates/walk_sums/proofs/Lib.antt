mod Unseen
mod Diving
mod Lengths
pub mod Ordering
mod Ordered
mod Spreading
mod Settling
mod Ranking
mod CallOrdering
pub mod Leading
pub mod Reached
pub mod Bodily
pub mod Counting
mod Looping
mod Ranked
mod Shaped
pub mod Stopping
pub mod LevelsAt
pub mod Callers
mod KnownRaised
mod Beginning
pub mod Measured
mod Covering
mod Endless
mod Limited
mod Summed
mod Small
mod Filling
pub mod Mapping
mod OrderSummaries
mod Summaries
mod Climbing
pub mod PlainSteps
mod Walking
mod ItemWeights
mod CountedWeights
mod LowerLevels
mod Telling
pub mod Greatest
pub mod OneTold
pub mod ItemSums
mod Clearing
mod CleanTasks
mod Reaching
mod SteadyTasks
pub mod Positions
