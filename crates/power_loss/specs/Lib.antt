pub mod Labels
pub mod Seen
pub mod Mounted
pub mod Recovery
pub mod Aside
pub mod Losses
pub mod Laws
