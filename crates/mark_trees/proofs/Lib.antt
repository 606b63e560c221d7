pub mod Halving
pub mod PutUp
