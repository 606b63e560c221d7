pub mod Schedules
pub mod Told
pub mod Vectors
