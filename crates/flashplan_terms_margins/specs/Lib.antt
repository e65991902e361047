pub mod Changes
pub mod MarginTexts
