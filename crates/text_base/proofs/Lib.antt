pub mod PageLaws
pub mod WritingLaws
pub mod WriterEnds
pub mod MarkLaws
pub mod RowLaws
pub mod WordLaws
pub mod StartLaws
pub mod OpStarts
