pub mod Cuts
pub mod Front
pub mod SeenPieces
pub mod Partition
pub mod Order
