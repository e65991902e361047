-- Small plans with times and events that keep to them, computed.
pub mod PlansWithTimes
pub mod EventsThatKeep
