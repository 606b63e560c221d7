pub mod Answers
pub mod Kept
pub mod Messages
pub mod Readable
pub mod Refusals
pub mod Reading
