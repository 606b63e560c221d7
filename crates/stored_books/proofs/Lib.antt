pub mod FurtherHolds
pub mod Meaning
pub mod OwnLengths
pub mod QueuesOfData
pub mod SamePlans
pub mod Tests
pub mod WaitingRises
