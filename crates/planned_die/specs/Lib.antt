pub mod Remembered
pub mod Planned
pub mod OwnCollections
pub mod PlannedCalls
pub mod BegunSlots
pub mod NewPlans
pub mod Resuming
