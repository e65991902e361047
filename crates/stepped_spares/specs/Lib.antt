pub mod Stepping
pub mod Beginning
pub mod Telling
pub mod Carrying
pub mod Erasing
