pub mod Skimming
pub mod Adding
pub mod OnlyFollower
pub mod EachText
pub mod EachGiven
