-- What is concluded of exact logs, and what laws say of them.
pub mod Legal
pub mod Promises
pub mod Certificates
pub mod InTime
pub mod Supply
pub mod PlannedLives
pub mod Windows
pub mod Covered
pub mod DemandedLives
pub mod Victims
pub mod Limits
pub mod Overdue
pub mod Laws
