pub mod Gatherings
pub mod Grammar
pub mod Numerals
pub mod PanesByDefault
pub mod Rules
