pub mod Facts
pub mod Held
pub mod Lengths
pub mod Messages
