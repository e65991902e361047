mod Counts
mod Lefts
pub mod Asking
mod Steps
pub mod Kept
pub mod Served
pub mod Bursts
pub mod AskJobs
pub mod Moving
pub mod Answered
pub mod Waiting
mod Numbers
