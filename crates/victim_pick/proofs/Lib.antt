pub mod Setting
pub mod Places
pub mod Highest
pub mod Coming
pub mod Leaving
pub mod Fresh
pub mod Walk
pub mod Least
