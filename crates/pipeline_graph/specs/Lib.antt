pub mod Followers
pub mod Indexes
pub mod Messages
pub mod Refusals
pub mod Rules
pub mod Settings
pub mod Taking
