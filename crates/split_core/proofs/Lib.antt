pub mod Ordered
pub mod Chunks
pub mod Partition
pub mod Cutting
