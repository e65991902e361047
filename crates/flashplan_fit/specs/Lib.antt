pub mod Sheets
pub mod Fits
pub mod Texts
