pub mod Messages
pub mod Strategies
