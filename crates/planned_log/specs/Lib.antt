pub mod Asks
pub mod Bursts
pub mod AskKinds
pub mod Lives
pub mod KeptLogs
pub mod Moves
pub mod Laws
