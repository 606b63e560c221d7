pub mod Merging
pub mod Runs
