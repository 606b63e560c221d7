pub mod Notes
pub mod Rule
pub mod Plays
pub mod Standing
pub mod Seen
pub mod Tally
pub mod TallyLaws
