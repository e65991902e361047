pub mod Lefts
pub mod Added
pub mod Told
pub mod Filling
pub mod ErasedBlocks
pub mod BegunParts
pub mod BadBlocks
