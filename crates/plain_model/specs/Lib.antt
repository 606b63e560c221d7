pub mod Emissions
pub mod Sessions
