pub mod Every
pub mod Rising
