pub mod Calls
pub mod DieRows
pub mod EachDie
pub mod ReadSoFar
pub mod TextRuns
pub mod GoingOn
pub mod FewRows
