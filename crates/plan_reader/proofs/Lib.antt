pub mod Causes
pub mod Documents
pub mod FewNodes
pub mod Members
pub mod Merging
mod OwnNumbers
pub mod Placed
pub mod Seen
pub mod Sides
pub mod Sizes
pub mod Texts
pub mod TreeTurns
pub mod Turns
