-- What proofs carry along an exact log, entry by entry.
pub mod SoundCells
pub mod RunningCollections
pub mod TrueAccounts
pub mod TrueAndLegal
