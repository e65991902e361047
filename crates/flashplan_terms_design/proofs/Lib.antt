pub mod Dies
pub mod Unusable
mod Margins
