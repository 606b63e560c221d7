pub mod SameValues
pub mod Searches
pub mod Joined
