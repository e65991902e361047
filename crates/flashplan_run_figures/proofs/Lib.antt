pub mod TaskRecords
pub mod Blanks
pub mod FigurePlaces
pub mod EmptyCells
