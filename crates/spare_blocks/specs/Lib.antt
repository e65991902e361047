pub mod Parts
pub mod Tables
pub mod Trying
pub mod Preparing
pub mod Spares
pub mod Powering
pub mod Wearing
pub mod WearingView
