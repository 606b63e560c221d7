mod FileLines
pub mod Runs
mod Merging
