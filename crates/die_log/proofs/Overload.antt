-- Why what waits does: there was too much work.
pub mod Counts
pub mod Waiting
