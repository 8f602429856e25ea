pub mod Along
mod Expiries
mod ReadTexts
mod RequestLines
