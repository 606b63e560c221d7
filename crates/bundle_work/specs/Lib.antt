pub mod Openings
pub mod Outside
pub mod Bundles
pub mod Reading
pub mod Kits
pub mod Trails
pub mod Stretches
pub mod Pairs
