pub mod SymbolFiles
pub mod SymbolNames
pub mod BuiltFiles
pub mod SourceFiles
pub mod SourceRows
pub mod StandingSections
pub mod StandingSymbols
