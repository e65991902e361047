pub mod Alphas
pub mod Changes
