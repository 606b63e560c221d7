mod Tests
mod Moved
mod InOrder
mod Runs
mod Takers
mod OpenApart
mod Whole
mod Steps
