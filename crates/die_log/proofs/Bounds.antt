-- The copies and the slots of a collection are bounded.
pub mod Acts
pub mod Exact
