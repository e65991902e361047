pub mod Once
pub mod Untold
pub mod Ended
pub mod Starting
pub mod Again
pub mod Keeping
pub mod Refusing
pub mod Blank
