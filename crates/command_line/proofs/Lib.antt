pub mod Commands
pub mod ToolWords
