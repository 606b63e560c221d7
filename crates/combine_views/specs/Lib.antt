pub mod Seen
pub mod Passing
pub mod Lines
pub mod Words
pub mod Told
pub mod Skims
pub mod Steps
