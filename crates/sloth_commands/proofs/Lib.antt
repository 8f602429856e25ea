pub mod ToolCauses
pub mod ToolComplete
pub mod ToolLines
mod PrintedMap
mod TaskDeclared
mod Registers
mod Printed
pub mod BuiltRuns
pub mod BuiltResponses
pub mod BuiltFormulas
pub mod BuiltRegisters
