pub mod Fires
pub mod NextMarks
