pub mod Writes
pub mod CutDies
pub mod Said
pub mod Runs
pub mod Texts
pub mod TriedTexts
pub mod Told
