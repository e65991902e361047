pub mod Demand
pub mod Faults
pub mod Steady
pub mod Supply
pub mod Keeping
pub mod Fitting
pub mod Earlier
