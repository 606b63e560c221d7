pub mod Ascending
pub mod Filling
pub mod HeldPlaces
pub mod Listing
pub mod MarkTests
pub mod PlaceOrder
pub mod Sorting
pub mod Tiling
