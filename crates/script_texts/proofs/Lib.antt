pub mod StepLaws
pub mod RowItems
pub mod NextItem
pub mod ScriptPages
pub mod OneReading
pub mod OneItem
pub mod RowFaults
pub mod RowLists
