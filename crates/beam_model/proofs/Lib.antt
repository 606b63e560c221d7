pub mod Above
mod Agreement
pub mod Ascending
pub mod BarrierReach
pub mod Barriers
mod Branches
pub mod Coverings
pub mod DeadPositions
mod Flows
pub mod Folds
mod Groupings
mod LegalRuns
mod Lists
pub mod MadeLines
mod Matching
mod Mergings
mod Outputs
pub mod Positions
pub mod Runs
mod Sessions
mod SideInputs
mod Witnesses
