pub mod Cut
pub mod Erase
pub mod Laid
pub mod Fresh
mod Looking
pub mod Left
