pub mod LeftDevices
pub mod GoingOn
pub mod DiesLeft
pub mod CallsMore
mod ManyStarts
mod NeverStopped
pub mod Refused
