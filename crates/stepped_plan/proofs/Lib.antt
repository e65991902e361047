pub mod Calling
pub mod Writing
pub mod GoingOn
pub mod Numbering
pub mod Mounted
