pub mod Holding
pub mod Running
pub mod TextRuns
pub mod Telling
pub mod Sentences
