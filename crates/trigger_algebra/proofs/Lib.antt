mod Lists
mod Needs
pub mod NormalForms
mod OneStaircase
mod Reaching
mod Rising
mod Stairs
pub mod Trees
