pub mod Places
pub mod Leads
pub mod Indexes
