pub mod Brought
pub mod Lasting
pub mod Combined
