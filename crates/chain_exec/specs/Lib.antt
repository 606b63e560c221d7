pub mod Causes
pub mod Deliveries
pub mod Messages
pub mod Passing
pub mod Unused
pub mod Positions
pub mod Sources
pub mod KeyCalls
