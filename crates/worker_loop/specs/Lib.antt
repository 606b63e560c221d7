pub mod Laws
pub mod Workers
pub mod Rounds
