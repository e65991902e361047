pub mod SavedDies
pub mod Devices
pub mod Runs
pub mod Refusals
pub mod Counted
