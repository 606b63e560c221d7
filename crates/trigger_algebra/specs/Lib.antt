pub mod Holding
pub mod Messages
pub mod Refusing
pub mod Staircases
mod Vectors
