pub mod Bags
pub mod Forms
