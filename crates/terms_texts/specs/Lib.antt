pub mod Keys
pub mod Refusing
pub mod Tables
pub mod TermsText
pub mod Stores
pub mod Plans
pub mod TermsReading
pub mod Written
