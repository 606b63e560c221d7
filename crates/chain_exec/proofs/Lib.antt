pub mod Emissions
pub mod Fronts
pub mod Looks
pub mod Passings
pub mod Poisons
pub mod Stops
pub mod KeySteps
