pub mod Inputs
pub mod RunInputs
