pub mod Leading
pub mod Indexing
