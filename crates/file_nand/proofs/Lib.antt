pub mod Filling
pub mod Left
pub mod Standing
