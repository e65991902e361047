pub mod Mounts
pub mod Texts
