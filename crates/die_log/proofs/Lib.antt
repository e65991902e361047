pub mod Exact
pub mod Choices
pub mod Legality
pub mod Known
pub mod Collecting
pub mod Heads
pub mod Numbered
pub mod Runs
pub mod Limits
pub mod AccountsPlan
pub mod Cells
pub mod LogInvariants
pub mod Legal
pub mod Tokens
pub mod Least
pub mod Bounds
pub mod Promises
pub mod Openings
pub mod Planned
pub mod Supply
pub mod Renewal
pub mod Restocking
pub mod Restocked
pub mod Victims
pub mod Life
pub mod Overload
mod Worked
mod Wrong
