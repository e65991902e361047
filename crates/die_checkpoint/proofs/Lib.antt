pub mod Looking
pub mod Excluding
pub mod OneFault
