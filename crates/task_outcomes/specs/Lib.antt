pub mod Told
pub mod Queues
pub mod Rings
pub mod OutcomeDies
pub mod OutcomeMoves
