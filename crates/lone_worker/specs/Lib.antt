pub mod Claims
pub mod Alone
pub mod Work
