pub mod Drawing
pub mod Labels
pub mod Vectors
pub mod Words
