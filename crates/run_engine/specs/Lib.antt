pub mod Kits
pub mod Openings
pub mod PlanRun
pub mod SetAside
pub mod Pausing
pub mod Resuming
