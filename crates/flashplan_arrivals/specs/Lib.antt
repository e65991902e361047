pub mod PlannedScripts
pub mod Steps
