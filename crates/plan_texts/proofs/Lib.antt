pub mod TableLaws
pub mod PlanLaws
pub mod PlanFronts
pub mod StoreLaws
pub mod OneReading
pub mod ReadFaults
