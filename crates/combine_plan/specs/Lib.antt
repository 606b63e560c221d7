pub mod Owning
pub mod Dealing
pub mod Folding
pub mod Lasting
pub mod Combined
pub mod Hands
pub mod Lifting
pub mod Skimming
