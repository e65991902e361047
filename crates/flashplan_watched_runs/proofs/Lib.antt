pub mod Slots
pub mod Counting
pub mod CountsSlots
pub mod JobEnds
pub mod FiguresSoFar
mod WornDies
mod RunsOf
pub mod TablesSoFar
pub mod OneStarted
pub mod WellRuns
