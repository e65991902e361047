pub mod PlanKinds
pub mod Designing
pub mod KeptActs
pub mod CutActs
pub mod Acts
pub mod Files
