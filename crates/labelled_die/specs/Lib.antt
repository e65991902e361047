pub mod Labelled
pub mod Beside
pub mod Scanning
