pub mod Drawing
pub mod Arrivals
pub mod Bars
pub mod Scale
pub mod Strips
pub mod TaskLooks
pub mod Marks
pub mod Signs
