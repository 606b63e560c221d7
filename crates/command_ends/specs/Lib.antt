pub mod Statuses
pub mod Retrying
pub mod Writing
pub mod Notes
pub mod WholeFiles
pub mod PlanFiles
pub mod ScheduleFiles
