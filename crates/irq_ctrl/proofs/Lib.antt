mod Choice
pub mod First
