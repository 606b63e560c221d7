pub mod Rounds
pub mod Steps
pub mod Crews
pub mod Ended
pub mod Crossing
