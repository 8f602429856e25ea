pub mod SectionWays
pub mod Trials
pub mod Standings
pub mod ShownWays
pub mod Trying
