pub mod ReadingLaws
pub mod RecordFaults
pub mod LineLaws
pub mod Back
pub mod Short
pub mod OneReading
