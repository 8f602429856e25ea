pub mod Counts
pub mod Trims
pub mod Parts
pub mod PlacesMade
pub mod PlacesRead
pub mod Shapes
pub mod TrueNumbers
