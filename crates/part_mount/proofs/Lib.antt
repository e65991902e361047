pub mod Erased
pub mod Bearing
pub mod Standing
pub mod GoingOn
pub mod Starting
pub mod Carried
pub mod Powered
pub mod Cuts
