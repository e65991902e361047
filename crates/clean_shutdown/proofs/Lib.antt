pub mod GoingOn
pub mod Starts
