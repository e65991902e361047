-- Exact logs are legal.
pub mod Acts
pub mod Runs
pub mod Exact
