pub mod Starting
pub mod Shutting
pub mod Between
