pub mod Below
pub mod Reached
pub mod Vectors
