pub mod Halves
pub mod Levels
