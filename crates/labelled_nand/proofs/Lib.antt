pub mod Marking
pub mod Powering
