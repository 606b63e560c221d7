pub mod BarStairs
pub mod CheckedPlans
pub mod FollowerChains
mod FollowerLists
mod FollowerMeanings
mod NodeStrategies
mod Unrefused
