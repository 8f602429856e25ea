pub mod CodeRam
pub mod Fresh
pub mod Choice
pub mod Place
