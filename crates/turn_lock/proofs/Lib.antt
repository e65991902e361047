pub mod Counts
pub mod Keeps
pub mod Owned
pub mod Turns
