pub mod Numberings
pub mod Shelving
