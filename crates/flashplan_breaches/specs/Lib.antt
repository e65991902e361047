pub mod Arrivals
pub mod Breaches
pub mod Trials
