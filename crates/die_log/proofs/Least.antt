-- Each slot of an exact log carried a least key, so its greatest lateness is least.
pub mod Lookups
pub mod Steps
pub mod Taking
pub mod Waiving
pub mod Carrying
pub mod Exact
pub mod Worst
pub mod Certificates
