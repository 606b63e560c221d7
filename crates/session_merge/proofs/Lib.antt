pub mod Lists
pub mod Inserting
pub mod Places
pub mod Merges
pub mod Taking
