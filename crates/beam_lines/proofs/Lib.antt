pub mod Digits
pub mod Finding
pub mod Stamps
