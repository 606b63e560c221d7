pub mod Filling
pub mod HeldLines
pub mod Pages
pub mod Strictness
pub mod Telling
pub mod Views
pub mod WholeLines
