pub mod Graphs
pub mod Stores
pub mod InUse
pub mod Kept
pub mod Asked
pub mod Tried
pub mod ReplayFiles
pub mod ReplayKits
pub mod ReplayStops
pub mod Promises
mod PlainPlans
mod Completeness
mod CombineStops
mod CombineDecided
mod ReplayDecided
mod PanesPoison
mod PanesStops
mod PanesTakes
mod PanesEnds
mod DrillLines
mod Drilled
mod DrillTexts
mod DrillRuns
mod DrillEnds
mod DrillPrints
