pub mod Numbers
pub mod Views
pub mod Stages
pub mod Steps
pub mod Parting
pub mod Ending
pub mod Told
