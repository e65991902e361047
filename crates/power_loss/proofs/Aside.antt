-- A part with a block aside.
pub mod Lists
pub mod Renumbering
pub mod Parts
pub mod Untrimmed
pub mod ComingBack
pub mod Erases
