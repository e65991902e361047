pub mod Arriving
pub mod Packed
