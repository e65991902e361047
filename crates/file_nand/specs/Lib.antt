pub mod Filed
pub mod Opened
