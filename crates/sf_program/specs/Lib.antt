pub mod Exits
pub mod Inputs
pub mod Outputs
pub mod Program
pub mod StatusNumbers
pub mod Words
