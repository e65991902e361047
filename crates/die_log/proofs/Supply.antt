-- The balance of a task covers its next job, where the die's events keep its plan.
pub mod Gains
pub mod Closing
pub mod Amounts
pub mod Slots
pub mod Waived
pub mod Held
pub mod RunningOn
pub mod Following
pub mod Owing
pub mod Covering
pub mod Accepted
pub mod Earlier
pub mod Unrefused
