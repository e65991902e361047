-- What has to be believed: what a log is, what a die answers, and what stood when its log began.
pub mod Log
pub mod Start
pub mod Flash
pub mod Work
pub mod Accounts
pub mod Answers
pub mod NeededCalls
pub mod Opening
pub mod Lives
pub mod Rows
