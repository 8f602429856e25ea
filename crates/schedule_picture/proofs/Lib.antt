pub mod Drawing
pub mod Every
mod MarkRows
pub mod OnePicture
pub mod Sampling
pub mod Shown
pub mod Watched
mod Itemized
mod ToldOnce
