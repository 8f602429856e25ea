pub mod OilText
pub mod SourceText
pub mod Texts
pub mod RankedTexts
pub mod Checked
pub mod TaskNames
