pub mod Following
pub mod Besides
pub mod Passing
pub mod Seeing
