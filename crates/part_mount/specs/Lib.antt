pub mod OnPart
pub mod Calls
pub mod Going
pub mod Cuts
