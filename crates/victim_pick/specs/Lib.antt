pub mod Candidates
pub mod Ties
pub mod Links
pub mod Lists
pub mod SoundVictims
