pub mod Stepping
pub mod Turning
pub mod Tells
pub mod Opened
pub mod Counting
pub mod Crossing
