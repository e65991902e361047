pub mod Arriving
pub mod Ending
pub mod Naming
pub mod OneAnswer
pub mod Numbering
pub mod Mounted
