pub mod Calls
pub mod Looks
pub mod Memory
pub mod MemoryView
pub mod PoweredUp
