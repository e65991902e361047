pub mod KeptPlans
pub mod KeptDies
pub mod KeptRows
pub mod KeptRuns
pub mod Refusals
