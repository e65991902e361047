pub mod Stages
pub mod Calls
pub mod Resuming
pub mod Numbered
