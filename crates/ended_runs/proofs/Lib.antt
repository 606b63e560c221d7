mod Listed
mod Ordered
pub mod Stopped
pub mod RunsOn
pub mod Poisons
pub mod Unpoisoned
mod TakesUnpoisoned
mod NoPoisonPositions
mod StoppedByReads
mod DeadPoison
mod Ending
mod DeadLetters
mod LegalLogs
mod Passing
mod Bounds
mod Forward
mod Above
mod ToCome
mod SeenTimes
mod PanesWell
mod MarksAbove
mod SoFar
mod SoFarAlways
mod Grouped
mod SessionsStay
mod SessionKeys
mod SessionsGrouped
mod Written
mod SideChains
mod SidePanes
mod SidePlace
mod Sides
mod Pipeline
mod OneKeyRun
mod LateLine
mod LateLineRun
mod EarlyPane
mod EarlyPaneRun
