pub mod formers
pub mod Roomy
pub mod Stored
