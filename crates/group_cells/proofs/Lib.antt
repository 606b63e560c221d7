mod Alike
mod Arriving
pub mod Counting
pub mod WindowTests
pub mod StandingWindows
pub mod WindowSteps
pub mod LongerHistory
pub mod OpenedCells
pub mod AllOpened
pub mod MovedEntries
pub mod PutEntries
pub mod FiredCells
pub mod OneCommit
pub mod OpenedWindows
pub mod LegalRounds
pub mod KeyedBags
pub mod EachKey
pub mod KeptKeys
pub mod KeyCells
pub mod LongerMarks
pub mod PositiveGaps
pub mod AllKeys
pub mod KeptGaps
pub mod FirstCommit
mod GroupPlans
mod PlacedKeys
mod PlacedCells
mod PlacedInTurn
mod FiredGroups
mod FiredNodes
mod FiredInTurn
pub mod Shapes
pub mod StillOpen
pub mod KeptTakers
pub mod KeptApart
pub mod Settling
pub mod CountedPanes
pub mod QuietRounds
pub mod KeptSane
pub mod RisenMarks
mod PlainRounds
mod PlainPlacing
mod WindowSessions
mod FiredFew
mod FiredPanes
mod DueFirst
mod DueKeys
mod DueRanges
mod DueSteps
mod FireSteps
mod FiredPlaces
mod Advancing
mod StandingPlaces
mod ListedWindows
pub mod MetPlaces
mod KnownCells
mod KnownKeys
mod NearSessions
mod OpenedSessions
mod TakenEntries
mod KeyMaps
mod Handing
mod GivenWay
mod SessionsInTurn
mod AllArrived
mod Looking
mod LoopSteps
mod Projecting
mod Taking
mod Undoing
mod ShownFirst
mod Unfiring
mod Unmerged
mod Writes
mod SettledMoments
mod Tracking
mod Restored
mod UndonePlaces
