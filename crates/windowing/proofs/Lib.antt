pub mod Ends
pub mod Euclid
pub mod GivenWindows
pub mod Sliding
pub mod UnderWay
pub mod Quotients
