pub mod Parts
pub mod Standing
pub mod Lifting
pub mod Tables
pub mod Merging
pub mod Indexed
pub mod Folds
pub mod Views
