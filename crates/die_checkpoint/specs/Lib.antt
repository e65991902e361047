pub mod Counts
pub mod Fits
pub mod Faults
