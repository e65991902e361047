pub mod Windows
pub mod BySlot
pub mod Sliding
pub mod Overfull
pub mod Planned
pub mod Collecting
pub mod Breaches
