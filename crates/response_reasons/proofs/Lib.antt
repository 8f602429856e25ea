mod Doubling
mod Twice
mod Linked
mod Items
mod Tables
mod CallLines
mod Servers
mod EarlyLines
mod RoundLoops
mod Sections
pub mod OneReason
