pub mod Taking
pub mod Between
pub mod Slides
pub mod Collected
pub mod Counting
pub mod AnswersOfBreaches
pub mod Breaking
pub mod SlotBySlot
