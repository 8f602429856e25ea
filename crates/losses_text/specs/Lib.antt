pub mod Expiries
pub mod Losses
pub mod NothingLost
pub mod RequestCounts
pub mod Requests
pub mod RequestsText
