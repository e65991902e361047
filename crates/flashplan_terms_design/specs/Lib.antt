pub mod Kinds
pub mod DieTexts
pub mod FaultTexts
pub mod Explaining
