pub mod Monotone
pub mod Settling
pub mod OneBound
pub mod OneLeast
mod Within
mod WindowParts
mod Booted
mod Firsts
mod Endless
mod LowerBounds
pub mod AllTold
pub mod Leasts
