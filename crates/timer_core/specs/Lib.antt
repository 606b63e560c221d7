pub mod FirstTimers
