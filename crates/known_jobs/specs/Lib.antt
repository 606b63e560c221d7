pub mod Jobs
pub mod Calls
pub mod Kept
pub mod Known
pub mod Carried
