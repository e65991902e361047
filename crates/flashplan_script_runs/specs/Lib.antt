pub mod RunningDies
pub mod ScriptRuns
pub mod Counted
