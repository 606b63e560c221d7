pub mod Attempts
pub mod MarksOfCommits
pub mod Orders
pub mod Parts
pub mod Places
pub mod Tiles
