pub mod Flash
pub mod Calls
pub mod Memory
pub mod MemoryView
pub mod Fuse
