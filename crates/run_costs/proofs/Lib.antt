mod Members
mod Coming
mod Raised
mod Nothing
mod Uncounted
mod Topping
mod Growing
mod Serving
mod Making
mod Greatest
mod Sectioning
pub mod Taking
mod Naming
mod Closing
mod CleanRounds
mod OneSums
mod SameCosts
mod Weighing
mod Times
pub mod OneCosts
