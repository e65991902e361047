pub mod Syntax
pub mod RequestTexts
pub mod Values
pub mod Together
pub mod Commands
pub mod Reading
