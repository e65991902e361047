pub mod Standing
pub mod Entering
pub mod DieAsks
pub mod AsksAhead
pub mod OngoingCalls
pub mod BegunSlots
pub mod OngoingPlans
pub mod Resuming
