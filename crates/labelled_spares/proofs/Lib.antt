pub mod Lists
pub mod Follows
pub mod Looked
pub mod Powered
pub mod Renumbered
pub mod Pigeons
pub mod Found
pub mod Anew
