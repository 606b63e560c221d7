pub mod Claims
pub mod Taken
