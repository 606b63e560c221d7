pub mod Messages
pub mod Paging
pub mod Sources
