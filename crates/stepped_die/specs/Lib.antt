pub mod Arrivals
pub mod DeviceCalls
pub mod Names
pub mod Parts
pub mod Stepped
pub mod Numbered
pub mod Steps
