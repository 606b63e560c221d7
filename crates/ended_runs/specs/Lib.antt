pub mod Stops
pub mod Storable
pub mod Unpoisoned
pub mod RunsOn
pub mod DeadLetters
pub mod EndedRuns
pub mod Sides
