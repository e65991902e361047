pub mod Times
pub mod Rates
pub mod Comments
