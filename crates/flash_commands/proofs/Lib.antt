mod KindLemmas
mod Endings
pub mod Reported
mod Judging
mod Verdicts
