pub mod DueMarks
mod NextMarkRows
