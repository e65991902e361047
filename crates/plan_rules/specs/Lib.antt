pub mod Bound
pub mod Accounts
pub mod Blocks
pub mod Times
pub mod Keeping
pub mod Walks
