pub mod Asked
pub mod OwnPages
pub mod Runs
pub mod Lives
pub mod GoingOn
